-- What each service does: a plan, and then its changes (OSEK OS 2.2.3, sections 13.2 and 13.4 to 13.6).
use Rattle.std.specs.Prelude.{ℕ, ◌==◌, Bool, cond, [], get_or, set, bit_and, Option, Some, None}
use Rattle.sloth_base.specs.Status.{E_OK, E_OS_LIMIT, E_OS_NOFUNC, E_OS_STATE, E_OS_VALUE}
use Rattle.sloth_base.specs.declared.config.Config.{Config}
use Rattle.sloth_base.specs.declared.service.Service.{Service}
use Rattle.sloth_base.specs.declared.service.Service.TheVariants as service
use Rattle.osek_scheduler.specs.declared.change.TaskChange.{TaskChange}
use Rattle.osek_scheduler.specs.declared.change.TaskChange.TheVariants as change
use Rattle.osek_scheduler.specs.declared.change.Other.{Other}
use Rattle.osek_scheduler.specs.declared.change.Other.TheVariants as other
use Rattle.osek_scheduler.specs.declared.change.Plan.{Plan}
use Rattle.sloth_base.specs.Named.{alarm_declaration, counter_of}
use Rattle.sloth_base.specs.Ticks.{ticks_to}
use Rattle.osek_scheduler.specs.State.{System, task, counter, alarm, with_alarm}
use Rattle.osek_scheduler.specs.Meaning.{bytes_after_store}
use Rattle.osek_scheduler.specs.Services.{if_suspended, activated_state, set_events, state_number, first_operand, second_operand, is_in_use, allows_relative, allows_absolute, ServiceOutcome, GoesOn, Leaves}
use Rattle.osek_scheduler.specs.Changes.{with_change}

-- a plan
abbrev pub plan : Option ℕ → TaskChange → Other → Plan
plan answer c o = record { answer = answer; change = c; other = o }

-- the system after what an event does besides
abbrev pub with_other : Other → System → System
with_other other.Nothing s = s
with_other (other.Activate t) s = activated_state s t
with_other (other.AddEvents t mask) s = set_events t mask s
with_other (other.Store y w offset value) s = record s { symbols = set s.symbols y (bytes_after_store w (get_or s.symbols y []) offset value) }
with_other (other.SetAlarm a left cycle) s = with_alarm s a (record { left = left; cycle = cycle })

-- the system after a plan of task t
abbrev pub planned_system : ℕ → Plan → System → System
planned_system t p s = with_other p.other (with_change t p.change s)

-- the outcome that shows this status, or that the caller leaves
abbrev pub shown_outcome : Option ℕ → System → ServiceOutcome
shown_outcome (Some status) s = GoesOn status s
shown_outcome None s = Leaves s

-- ---- decisions

-- one of several plans, by tests
pub data Decision : Type 0 where
  Does : Plan → Decision
  IfSuspended : (t : ℕ) → Decision → Decision → Decision
  If : Bool → Decision → Decision → Decision

-- the plan that is taken in a state
abbrev pub plan_in : System → Decision → Plan
plan_in s (Does p) = p
plan_in s (IfSuspended t first second) = if_suspended (task s t).state (plan_in s first) (plan_in s second)
plan_in s (If test first second) = cond test (plan_in s first) (plan_in s second)

-- the outcome of a decision of task t
abbrev pub outcome_of : ℕ → System → Decision → ServiceOutcome
outcome_of t s (Does p) = shown_outcome p.answer (planned_system t p s)
outcome_of t s (IfSuspended u first second) = if_suspended (task s u).state (outcome_of t s first) (outcome_of t s second)
outcome_of t s (If test first second) = cond test (outcome_of t s first) (outcome_of t s second)

-- ---- services

-- the caller goes on with a status alone
abbrev pub status_decision : ℕ → Decision
status_decision status = Does (plan (Some status) (change.Answer status) other.Nothing)

-- the caller goes on with E_OK and a value
abbrev pub value_decision : ℕ → Decision
value_decision value = Does (plan (Some E_OK) (change.AnswerWith value) other.Nothing)

-- the caller goes on with E_OK, and this is done besides
abbrev pub other_decision : Other → Decision
other_decision o = Does (plan (Some E_OK) (change.Answer E_OK) o)

-- the caller goes on with E_OK behind this change
abbrev pub change_decision : TaskChange → Decision
change_decision c = Does (plan (Some E_OK) c other.Nothing)

-- the caller leaves
abbrev pub leave_decision : TaskChange → Other → Decision
leave_decision c o = Does (plan None c o)

-- the caller sets an alarm, where it is not in use and the values are allowed
abbrev pub alarm_setting_decision : (a : ℕ) → (allowed : Bool) → (left cycle : ℕ) → System → Decision
alarm_setting_decision a allowed left cycle s =
    If (is_in_use s a) (status_decision E_OS_STATE) (If allowed (other_decision (other.SetAlarm a left cycle)) (status_decision E_OS_VALUE))

-- the caller does something to an alarm or tells of it, where that is in use
abbrev pub alarm_use_decision : (a : ℕ) → Decision → System → Decision
alarm_use_decision a does s = If (is_in_use s a) does (status_decision E_OS_NOFUNC)

-- what a service does; `object` is its task, resource or alarm, `mask` that of its events
abbrev pub decision : Config → Service → (object mask caller : ℕ) → System → Decision
decision config service.ActivateTask t mask caller s = IfSuspended t (other_decision (other.Activate t)) (status_decision E_OS_LIMIT)
decision config service.TerminateTask object mask caller s = leave_decision change.End other.Nothing
decision config service.ChainTask t mask caller s =
    If (t == caller) (leave_decision change.End (other.Activate caller))
    (IfSuspended t (leave_decision change.End (other.Activate t)) (status_decision E_OS_LIMIT))
decision config service.Schedule object mask caller s = change_decision change.Pause
decision config service.GetTaskID object mask caller s = value_decision caller
decision config service.GetTaskState t mask caller s = value_decision (state_number caller t (task s t).state)
decision config service.GetResource r mask caller s = change_decision (change.Take r)
decision config service.ReleaseResource r mask caller s = change_decision change.Release
decision config service.SetEvent t mask caller s = IfSuspended t (status_decision E_OS_STATE) (other_decision (other.AddEvents t mask))
decision config service.ClearEvent object mask caller s = change_decision (change.ClearEvents mask)
decision config service.GetEvent t mask caller s = IfSuspended t (status_decision E_OS_STATE) (value_decision (task s t).events)
decision config service.WaitEvent object mask caller s =
    If (bit_and (task s caller).events mask == 0) (leave_decision (change.Wait mask) other.Nothing) (status_decision E_OK)
decision config service.SetRelAlarm a mask caller s =
    let ticks = first_operand (task s caller) in
    let cycle = second_operand (task s caller) in
    alarm_setting_decision a (allows_relative (counter_of config a) ticks cycle) ticks cycle s
decision config service.SetAbsAlarm a mask caller s =
    let start = first_operand (task s caller) in
    let cycle = second_operand (task s caller) in
    let value = (counter s (alarm_declaration config a).counter).value in
    alarm_setting_decision a (allows_absolute (counter_of config a) start cycle) (ticks_to (counter_of config a).max value start) cycle s
decision config service.CancelAlarm a mask caller s = alarm_use_decision a (other_decision (other.SetAlarm a 0 (alarm s a).cycle)) s
decision config service.GetAlarm a mask caller s = alarm_use_decision a (value_decision (alarm s a).left) s

-- the outcome of a call of a service by a task
abbrev pub outcome : Config → Service → (object mask caller : ℕ) → System → ServiceOutcome
outcome config s object mask caller before = outcome_of caller before (decision config s object mask caller before)
