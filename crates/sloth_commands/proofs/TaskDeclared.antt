-- The task that an event names is declared, where the event is a step.
use Rattle.std.proofs.Common.{◌<◌, length}
use Rattle.std.specs.Prelude.{IfSome}
use Rattle.sloth_base.specs.declared.app.App.{App}
use Rattle.sloth_base.specs.declared.config.Config.{Config}
use Rattle.sloth_base.specs.declared.service.Event.{Event}
use Rattle.sloth_base.specs.declared.service.Event.TheVariants as event
use Rattle.sloth_base.specs.Events.{named_task}
use Rattle.osek_scheduler.specs.State.{System}
use Rattle.osek_scheduler.specs.Steps.{OsekStep}

pub task_declared : (config : Config) (app : App) (e : Event) (s next : System) → OsekStep config app e s next → IfSome (named_task e) (λ t. t < length config.tasks)
task_declared config app (event.Admit t) s next step = step.1
task_declared config app (event.Enter t) s next step = step.1.declared
task_declared config app (event.Run t f item result) s next step = step.1.top.declared
task_declared config app (event.Call t called status) s next step = step.1.1.top.declared
task_declared config app (event.Left t called) s next step = step.1.1.top.declared
task_declared config app (event.Back t) s next step = step.1.declared
task_declared config app e s next step = tt
