use Rattle.sim_routines.proofs.schedule_stretches.Goals as goal
use Rattle.sim_routines.proofs.ScheduleStretch.{yields_stretches}

pub returns : goal.returns
returns c = λ b view arrivals count state s t fits setting after_boot stands opens. yields_stretches b view arrivals count state s t fits setting after_boot stands opens
