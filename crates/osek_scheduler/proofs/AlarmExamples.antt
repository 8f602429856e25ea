-- Runs with counters and alarms, and lists that are none.
use Rattle.std.proofs.Common.{◌≡◌, ℕ, List, [], ◌∷◌, ◌++◌, Bool, true, false, pos, refl}
use Rattle.sloth_base.specs.declared.config.Action.{Action}
use Rattle.sloth_base.specs.declared.config.Action.TheVariants as action
use Rattle.sloth_base.specs.declared.config.AlarmDecl.{AlarmDecl}
use Rattle.sloth_base.specs.declared.config.Config.{Config}
use Rattle.sloth_base.specs.declared.app.App.{App}
use Rattle.sloth_base.specs.declared.app.Op.{Op}
use Rattle.sloth_base.specs.declared.app.Op.TheVariants as op
use Rattle.sloth_base.specs.declared.app.ImmKind.TheVariants as imm
use Rattle.sloth_base.specs.declared.service.Event.{Event}
use Rattle.sloth_base.specs.declared.service.Event.TheVariants as event
use Rattle.sloth_base.specs.declared.service.Service.TheVariants as service
use Rattle.osek_scheduler.proofs.Examples.{full, system, body, code, serve, accepts_behind_boot}

-- two tasks, a counter up to this value, and its alarms
abbrev timed : (max : ℕ) → List AlarmDecl → Config
timed max alarms = record (system (full 1 true [] 0 ∷ full 2 false [] 1 ∷ [])) { counters = record { name = []; max = max; min_cycle = 1 } ∷ []; alarms = alarms }

-- an alarm of that counter
abbrev alarm_for : Action → (time cycle : ℕ) → AlarmDecl
alarm_for does time cycle = record { name = []; counter = 0; action = does; time = time; cycle = cycle }

abbrev copied : (rd rs : ℕ) → Op
copied rd rs = op.AluImm imm.Addi rd rs (pos 0)

-- this task, and a second one that ends at once
abbrev main_code : List Op → App
main_code items = code (body 0 items [] ∷ body 1 (serve service.TerminateTask 0 0 ∷ []) [] ∷ []) []

-- The main task sets the alarm and ends; then these events come.
abbrev ticking : List Event → Bool
ticking events = accepts_behind_boot (timed 9 (alarm_for (action.Activate 1) 0 0 ∷ []))
    (main_code (op.Li 10 2 ∷ op.Li 11 3 ∷ serve service.SetRelAlarm 0 0 ∷ copied 5 10 ∷ serve service.GetAlarm 0 0 ∷ copied 6 11
    ∷ serve service.SetRelAlarm 0 0 ∷ copied 7 10 ∷ serve service.TerminateTask 0 0 ∷ []))
    (event.Enter 0 ∷ event.Run 0 0 0 2 ∷ event.Run 0 0 1 3 ∷ event.Call 0 service.SetRelAlarm 0 ∷ event.Run 0 0 3 0
    ∷ event.Call 0 service.GetAlarm 0 ∷ event.Run 0 0 5 2 ∷ event.Call 0 service.SetRelAlarm 7 ∷ event.Run 0 0 7 7
    ∷ event.Left 0 service.TerminateTask ∷ event.Idle ∷ events)

-- the first expiry is at the second tick, the next three ticks on
ticking_runs : ticking (event.Due 0 ∷ event.Tick 0 ∷ event.Idle ∷ event.Due 0 ∷ event.Tick 0 ∷ event.Enter 1 ∷ event.Left 1 service.TerminateTask ∷ event.Idle
    ∷ event.Due 0 ∷ event.Tick 0 ∷ event.Idle ∷ event.Due 0 ∷ event.Tick 0 ∷ event.Idle ∷ event.Due 0 ∷ event.Tick 0 ∷ event.Enter 1
    ∷ event.Left 1 service.TerminateTask ∷ event.Idle ∷ []) ≡ true
ticking_runs = refl

ticking-idle_while_due : ticking (event.Due 0 ∷ event.Idle ∷ []) ≡ false
ticking-idle_while_due = refl

ticking-without_an_arrival : ticking (event.Tick 0 ∷ []) ≡ false
ticking-without_an_arrival = refl

ticking-two_for_one : ticking (event.Due 0 ∷ event.Due 0 ∷ event.Tick 0 ∷ event.Tick 0 ∷ []) ≡ false
ticking-two_for_one = refl

ticking-too_early : ticking (event.Due 0 ∷ event.Tick 0 ∷ event.Enter 1 ∷ []) ≡ false
ticking-too_early = refl

ticking-task_while_due : ticking (event.Due 0 ∷ event.Tick 0 ∷ event.Due 0 ∷ event.Tick 0 ∷ event.Due 0 ∷ event.Enter 1 ∷ []) ≡ false
ticking-task_while_due = refl

ticking-other_counter : ticking (event.Due 1 ∷ []) ≡ false
ticking-other_counter = refl

-- An alarm starts by itself, and expires once.
abbrev by_itself : List Event → Bool
by_itself events = accepts_behind_boot (timed 9 (alarm_for (action.Activate 1) 1 0 ∷ [])) (main_code (serve service.TerminateTask 0 0 ∷ []))
    (event.Due 0 ∷ event.Tick 0 ∷ events)

by_itself_runs : by_itself (event.Enter 1 ∷ event.Left 1 service.TerminateTask ∷ event.Due 0 ∷ event.Tick 0 ∷ event.Enter 0 ∷ []) ≡ true
by_itself_runs = refl

by_itself-lower_first : by_itself (event.Enter 0 ∷ []) ≡ false
by_itself-lower_first = refl

-- An absolute time that is the counter's value is a whole turn away.
abbrev absolute : (status : ℕ) → Bool
absolute status = accepts_behind_boot (timed 9 (alarm_for (action.Activate 1) 0 0 ∷ []))
    (main_code (op.Li 10 10 ∷ op.Li 11 0 ∷ serve service.SetAbsAlarm 0 0 ∷ op.Li 10 0 ∷ serve service.SetAbsAlarm 0 0 ∷ serve service.GetAlarm 0 0 ∷ copied 5 11
    ∷ serve service.CancelAlarm 0 0 ∷ serve service.CancelAlarm 0 0 ∷ serve service.TerminateTask 0 0 ∷ []))
    (event.Enter 0 ∷ event.Run 0 0 0 10 ∷ event.Run 0 0 1 0 ∷ event.Call 0 service.SetAbsAlarm 8 ∷ event.Run 0 0 3 0
    ∷ event.Call 0 service.SetAbsAlarm 0 ∷ event.Call 0 service.GetAlarm 0 ∷ event.Run 0 0 6 10 ∷ event.Call 0 service.CancelAlarm 0
    ∷ event.Call 0 service.CancelAlarm status ∷ event.Left 0 service.TerminateTask ∷ event.Idle ∷ [])

absolute_runs : absolute 5 ≡ true
absolute_runs = refl

absolute-cancelled_twice : absolute 0 ≡ false
absolute-cancelled_twice = refl

-- The value behind the greatest is 0: behind these ticks of a counter up to 1, the value 1 is so far away.
abbrev turning : List Event → (left : ℕ) → Bool
turning ticks left = accepts_behind_boot (timed 1 (alarm_for (action.Activate 1) 0 0 ∷ []))
    (main_code (op.Li 10 1 ∷ op.Li 11 0 ∷ serve service.SetAbsAlarm 0 0 ∷ serve service.GetAlarm 0 0 ∷ copied 5 11 ∷ []))
    (ticks ++ event.Enter 0 ∷ event.Run 0 0 0 1 ∷ event.Run 0 0 1 0 ∷ event.Call 0 service.SetAbsAlarm 0 ∷ event.Call 0 service.GetAlarm 0
    ∷ event.Run 0 0 4 left ∷ [])

turning_runs : turning (event.Due 0 ∷ event.Tick 0 ∷ []) 2 ≡ true
turning_runs = refl

turning-one_early : turning (event.Due 0 ∷ event.Tick 0 ∷ []) 1 ≡ false
turning-one_early = refl

turning-back_at_0 : turning (event.Due 0 ∷ event.Tick 0 ∷ event.Due 0 ∷ event.Tick 0 ∷ []) 1 ≡ true
turning-back_at_0 = refl

-- The alarms of a counter are taken in order: an event that is set before its task is activated is lost. The second task shows its events.
abbrev both_expire : AlarmDecl → AlarmDecl → (events : ℕ) → Bool
both_expire first second events = accepts_behind_boot (timed 9 (first ∷ second ∷ []))
    (code (body 0 (serve service.TerminateTask 0 0 ∷ []) [] ∷ body 1 (serve service.GetEvent 1 0 ∷ copied 5 11 ∷ []) [] ∷ []) [])
    (event.Due 0 ∷ event.Tick 0 ∷ event.Enter 1 ∷ event.Call 1 service.GetEvent 0 ∷ event.Run 1 1 1 events ∷ [])

both_expire-the_event_first : both_expire (alarm_for (action.Set 1 1) 1 0) (alarm_for (action.Activate 1) 1 0) 0 ≡ true
both_expire-the_event_first = refl

both_expire-in_the_wrong_order : both_expire (alarm_for (action.Set 1 1) 1 0) (alarm_for (action.Activate 1) 1 0) 1 ≡ false
both_expire-in_the_wrong_order = refl

both_expire-the_activation_first : both_expire (alarm_for (action.Activate 1) 1 0) (alarm_for (action.Set 1 1) 1 0) 1 ≡ true
both_expire-the_activation_first = refl
