-- What a bar shows of a task's state.
use Rattle.std.specs.Prelude.{Bool, cond, Option, Some, None}
use Rattle.osek_scheduler.specs.declared.state.TaskState.{TaskState}
use Rattle.osek_scheduler.specs.declared.state.TaskState.TheVariants as mode
use Rattle.lane_drawing.specs.declared.drawing.Look.{Look}
use Rattle.lane_drawing.specs.declared.drawing.Look.TheVariants as look

-- of an Active task: it runs, and its own code is executed or the kernel's; or another one runs
abbrev pub active_look : (runs kernel : Bool) → Look
active_look runs kernel = cond runs (cond kernel look.Served look.Runs) look.Preempted

-- a task's look by its state; a Suspended one is not shown
abbrev pub task_look : TaskState → (runs kernel : Bool) → Option Look
task_look mode.Suspended runs kernel = None
task_look mode.Ready runs kernel = Some look.Ready
task_look mode.Active runs kernel = Some (active_look runs kernel)
task_look (mode.Waiting mask) runs kernel = Some look.Waiting
