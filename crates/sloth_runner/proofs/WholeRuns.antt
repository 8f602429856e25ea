-- What a run shows that does not stop.
use Rattle.std.specs.Prelude.{Option, Some, None}
use Rattle.sloth_runner.specs.declared.task_states.Seen.{Seen}
use Rattle.sloth_runner.specs.declared.task_states.Sight.{Sight}
use Rattle.sloth_runner.specs.declared.task_states.Sight.TheVariants as sights

-- what a run shows that does not stop, of what was seen last
abbrev pub states_behind_run : Option Seen → Sight
states_behind_run None = sights.Booting
states_behind_run (Some seen) = sights.At seen
