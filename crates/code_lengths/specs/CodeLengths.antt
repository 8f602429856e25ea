-- How many instructions each piece of generated code has. The contracts of the generators say so of their code, and the map gives each
-- piece this room.
use Rattle.std.specs.Prelude.{ℕ, ◌+◌, ◌*◌, ◌≡◌, ◌==◌, ◌&&◌, Bool, false, cond, if◌then◌else◌, Option, Some, None, List, [], ◌∷◌}
use Rattle.std.specs.List.{slice_get, list_any}
use Rattle.sloth_base.specs.Blocks.{block_service}
use Rattle.sloth_base.specs.declared.app.App.{App}
use Rattle.sloth_base.specs.declared.app.Func.{Func}
use Rattle.sloth_base.specs.declared.config.Action.{Action}
use Rattle.sloth_base.specs.declared.config.Action.TheVariants as action
use Rattle.sloth_base.specs.declared.config.AlarmDecl.{AlarmDecl}
use Rattle.sloth_base.specs.declared.config.Config.{Config}
use Rattle.sloth_base.specs.declared.config.TaskDecl.{TaskDecl}
use Rattle.sloth_base.specs.declared.service.Service.{Service}
use Rattle.sloth_base.specs.declared.service.Service.TheVariants as service
use Rattle.code_lengths.specs.declared.lengths.ServiceCounts.{ServiceCounts}

-- ---- boot

-- what starts these tasks: 3 for each, and 1 more for an autostarted one
abbrev pub lines_length : List TaskDecl → ℕ
lines_length [] = 0
lines_length (task ∷ tasks) = 3 + cond task.autostart 1 0 + lines_length tasks

-- boot of these tasks and of so many counters
abbrev pub boot_length : List TaskDecl → ℕ → ℕ
boot_length tasks counters = 10 + lines_length tasks + 3 * counters

-- ---- prologues

-- the prologue of an extended task or of a basic one, whose body has so many frame words
abbrev pub prologue_length : Bool → ℕ → ℕ
prologue_length extended words = if extended then 108 + words else 73 + words

-- so many has the prologue of a task
pub record IsPrologueLength (task : ℕ) (config : Config) (app : App) (size : ℕ) : Type 0 where
  pub decl : TaskDecl
  pub is_decl : slice_get config.tasks task ≡ Some decl
  pub body : ℕ
  pub func : Func
  pub is_func : slice_get app.funcs body ≡ Some func
  pub is_body : func.task ≡ Some task
  pub is : size ≡ prologue_length decl.extended func.frame_words

-- ---- ticks

-- an action sets events of this task
abbrev pub sets_events_of : ℕ → Action → Bool
sets_events_of task (action.Activate other) = false
sets_events_of task (action.Set other mask) = other == task

-- one of these alarms is the counter's and sets events of the task
abbrev pub is_looked_at : (counter task : ℕ) → List AlarmDecl → Bool
is_looked_at counter task alarms = list_any (λ alarm. (alarm.counter == counter) && sets_events_of task alarm.action) alarms

-- An alarm of a counter, with the look at the task whose events it sets: only the last of such alarms has that look.
abbrev pub action_length : (counter : ℕ) → Action → (later : List AlarmDecl) → ℕ
action_length counter (action.Activate task) later = 13
action_length counter (action.Set task mask) later = 24 + cond (is_looked_at counter task later) 0 10

-- those of these alarms that are the counter's
abbrev pub alarms_length : (counter : ℕ) → List AlarmDecl → ℕ
alarms_length counter [] = 0
alarms_length counter (alarm ∷ later) = cond (alarm.counter == counter) (action_length counter alarm.action later) 0 + alarms_length counter later

-- the tick of a counter among these alarms
abbrev pub tick_length : (counter : ℕ) → List AlarmDecl → ℕ
tick_length counter alarms = 11 + alarms_length counter alarms

-- ---- services

abbrev counts : (all going : ℕ) → ServiceCounts
counts all going = record { all = all; going = going }

-- the code of a service, whatever its object: all its instructions, and those of its longest path behind which its caller goes on, 0 where it never
-- does
abbrev pub service_counts : Service → ServiceCounts
service_counts service.ActivateTask = counts 12 12
service_counts service.TerminateTask = counts 49 0
service_counts service.ChainTask = counts 63 13
service_counts service.Schedule = counts 13 9
service_counts service.GetTaskID = counts 6 6
service_counts service.GetTaskState = counts 17 11
service_counts service.GetResource = counts 9 9
service_counts service.ReleaseResource = counts 6 6
service_counts service.SetEvent = counts 20 20
service_counts service.ClearEvent = counts 13 13
service_counts service.GetEvent = counts 12 12
service_counts service.WaitEvent = counts 90 13
service_counts service.SetRelAlarm = counts 23 17
service_counts service.SetAbsAlarm = counts 28 22
service_counts service.CancelAlarm = counts 8 8
service_counts service.GetAlarm = counts 8 8

-- all of them
abbrev pub service_length : Service → ℕ
service_length served = (service_counts served).all

-- nothing where there is no service
abbrev pub option_length : Option Service → ℕ
option_length (Some served) = service_length served
option_length None = 0

-- the code of the service that has a place in the table of blocks
abbrev pub block_length : ℕ → ℕ
block_length number = option_length (block_service number)
