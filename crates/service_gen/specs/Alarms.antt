-- The alarms of a counter, and the tasks that its tick looks at.
use Rattle.std.specs.Prelude.{ℕ, ◌+◌, ◌^◌, ◌<◌, ◌==◌, Bool, cond, List, [], ◌∷◌}
use Rattle.std.specs.List.{list_any, AllByRecursion}
use Rattle.sloth_base.specs.declared.config.Action.{Action}
use Rattle.sloth_base.specs.declared.config.Action.TheVariants.{Activate, Set}
use Rattle.sloth_base.specs.declared.config.AlarmDecl.{AlarmDecl}
use Rattle.sloth_base.specs.declared.config.Config.{Config}
use Rattle.sloth_base.specs.Limits.{task_limit, alarm_limit}
use Rattle.code_lengths.specs.CodeLengths.{sets_events_of}
use Rattle.service_gen.specs.declared.tick_code.NumberedAlarm.{NumberedAlarm}

-- the counter's alarms among these, of which the first has this number
abbrev pub alarms_from : (counter first : ℕ) → List AlarmDecl → List NumberedAlarm
alarms_from counter first [] = []
alarms_from counter first (alarm ∷ later) =
    cond (alarm.counter == counter) (record { number = first; action = alarm.action } ∷ alarms_from counter (first + 1) later)
    (alarms_from counter (first + 1) later)

-- the alarms of a counter, in the order of their numbers
abbrev pub counter_alarms : Config → (counter : ℕ) → List NumberedAlarm
counter_alarms config counter = alarms_from counter 0 config.alarms

-- ---- what is in range

-- an action names a task, and its events are a word
abbrev pub IsActionInRange : Action → Type 0
IsActionInRange (Activate task) = task < task_limit
IsActionInRange (Set task mask) = (task < task_limit) × (mask < 2 ^ 32)

-- an alarm
pub record IsAlarmInRange (alarm : NumberedAlarm) : Type 0 where
  pub number : alarm.number < alarm_limit
  pub action : IsActionInRange alarm.action

-- several
abbrev pub AreAlarmsInRange : List NumberedAlarm → Type 0
AreAlarmsInRange alarms = AllByRecursion IsAlarmInRange alarms

-- ---- which tasks are looked at

-- some alarm sets events of the task
abbrev pub is_target : ℕ → List NumberedAlarm → Bool
is_target task alarms = list_any (λ alarm. sets_events_of task alarm.action) alarms

-- the task of an action before others, where it sets events of one of which no later alarm sets events
abbrev pub tasks_before_later : Action → (later : List NumberedAlarm) → List ℕ → List ℕ
tasks_before_later (Activate task) later targets = targets
tasks_before_later (Set task mask) later targets = cond (is_target task later) targets (task ∷ targets)

-- the tasks whose events the alarms set, each once, by the last alarm that does so
abbrev pub targets : List NumberedAlarm → List ℕ
targets [] = []
targets (alarm ∷ later) = tasks_before_later alarm.action later (targets later)
