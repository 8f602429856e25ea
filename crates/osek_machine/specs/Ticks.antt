-- A tick of a counter, by changes of tasks and alarms.
use Rattle.std.specs.Prelude.{ℕ, ◌+◌, ◌-◌, ◌==◌, List, [], ◌∷◌, cond}
use Rattle.sloth_base.specs.declared.config.Action.{Action}
use Rattle.sloth_base.specs.declared.config.Action.TheVariants as action
use Rattle.sloth_base.specs.declared.config.AlarmDecl.{AlarmDecl}
use Rattle.sloth_base.specs.declared.config.Config.{Config}
use Rattle.sloth_base.specs.Named.{counter_declaration}
use Rattle.osek_scheduler.specs.State.{System, task, alarm}
use Rattle.osek_scheduler.specs.Services.{if_suspended, with_left, counted_on_state}
use Rattle.osek_scheduler.specs.declared.change.TaskChange.TheVariants as change
use Rattle.osek_scheduler.specs.Changes.{with_change}

-- the system after what an alarm does
abbrev pub acted_system : Action → System → System
acted_system (action.Activate t) s = if_suspended (task s t).state (with_change t change.Activate s) s
acted_system (action.Set t mask) s = if_suspended (task s t).state s (with_change t (change.AddEvents mask) s)

-- the same behind a tick of an alarm
abbrev pub alarm_ticked_system : Action → ℕ → System → System
alarm_ticked_system does a s =
    cond ((alarm s a).left == 1) (acted_system does (with_left a (alarm s a).cycle s)) (with_left a ((alarm s a).left - 1) s)

-- of these alarms, of which the first has this number, those that are the counter's
abbrev pub alarms_ticked_system : (c first : ℕ) → List AlarmDecl → System → System
alarms_ticked_system c first [] s = s
alarms_ticked_system c first (d ∷ declarations) s = alarms_ticked_system c (first + 1) declarations (cond (d.counter == c) (alarm_ticked_system d.action first s) s)

-- the system after a tick of a counter
abbrev pub ticked_system : Config → ℕ → System → System
ticked_system config c s = alarms_ticked_system c 0 config.alarms (counted_on_state c (counter_declaration config c).max s)
