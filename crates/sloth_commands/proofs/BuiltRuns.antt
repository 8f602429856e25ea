-- What every run of an image that is built keeps and prints: each is one of the abstract scheduler, of well-formed task code.
use Rattle.losses_text.proofs.Along.{runs_have_requests}
use Rattle.run_counts.proofs.Runs.{keeps_blocking_bounds}
use Rattle.sim_induction.specs.Sound.{events_of}
use Rattle.sloth_commands.specs.BuiltRuns.{BuiltRunsAreChecked, BuiltRunsHaveRequests, BuiltRunsKeepBlockingBounds}
use Rattle.sloth_commands.proofs.Printed.{runs_are_checked}

pub built-keep-bounds : BuiltRunsKeepBlockingBounds
built-keep-bounds config app image built arrivals n are =
    keeps_blocking_bounds config app image arrivals n built.well_formed (built.sound.each arrivals n are)

pub built-are-checked : BuiltRunsAreChecked
built-are-checked config app image built =
    runs_are_checked config app image built.well_formed.in_range built.sound built.items built.planned.by_map.is.bytes

pub built-have-requests : BuiltRunsHaveRequests
built-have-requests config app image built arrivals n are = runs_have_requests config app (events_of image arrivals n) (built.sound.each arrivals n are).osek
