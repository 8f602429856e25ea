-- Runs of tasks that wait for events, and lists that are none.
use Rattle.std.proofs.Common.{◌≡◌, List, [], ◌∷◌, Bool, true, false, pos, refl}
use Rattle.sloth_base.specs.declared.app.Op.TheVariants as op
use Rattle.sloth_base.specs.declared.app.ImmKind.TheVariants as imm
use Rattle.sloth_base.specs.declared.service.Event.{Event}
use Rattle.sloth_base.specs.declared.service.Event.TheVariants as event
use Rattle.sloth_base.specs.declared.service.Service.TheVariants as service
use Rattle.osek_scheduler.proofs.Examples.{full, system, body, code, serve, accepts_behind_boot}

-- Events of a suspended task cannot be set; they are clear at its activation.
abbrev events_of_others : List Event → Bool
events_of_others = accepts_behind_boot (system (full 2 true [] 0 ∷ full 1 false [] 1 ∷ []))
    (code (body 0 (serve service.SetEvent 1 1 ∷ serve service.ActivateTask 1 0 ∷ serve service.SetEvent 1 1 ∷ serve service.TerminateTask 0 0 ∷ []) []
    ∷ body 1 (serve service.GetEvent 1 0 ∷ op.AluImm imm.Addi 5 11 (pos 0) ∷ serve service.WaitEvent 0 1 ∷ serve service.TerminateTask 0 0 ∷ []) [] ∷ []) [])

events_of_others_runs : events_of_others (event.Enter 0 ∷ event.Call 0 service.SetEvent 7 ∷ event.Call 0 service.ActivateTask 0 ∷ event.Call 0 service.SetEvent 0 ∷ event.Left 0 service.TerminateTask ∷ event.Enter 1 ∷ event.Call 1 service.GetEvent 0 ∷ event.Run 1 1 1 1 ∷ event.Call 1 service.WaitEvent 0 ∷ event.Left 1 service.TerminateTask ∷ event.Idle ∷ []) ≡ true
events_of_others_runs = refl

events_of_others-an_event_of_a_suspended_task_set : events_of_others (event.Enter 0 ∷ event.Call 0 service.SetEvent 0 ∷ event.Call 0 service.ActivateTask 0 ∷ event.Call 0 service.SetEvent 0 ∷ event.Left 0 service.TerminateTask ∷ event.Enter 1 ∷ event.Call 1 service.GetEvent 0 ∷ event.Run 1 1 1 1 ∷ event.Call 1 service.WaitEvent 0 ∷ event.Left 1 service.TerminateTask ∷ event.Idle ∷ []) ≡ false
events_of_others-an_event_of_a_suspended_task_set = refl

events_of_others-the_event_is_not_set : events_of_others (event.Enter 0 ∷ event.Call 0 service.SetEvent 7 ∷ event.Call 0 service.ActivateTask 0 ∷ event.Call 0 service.SetEvent 0 ∷ event.Left 0 service.TerminateTask ∷ event.Enter 1 ∷ event.Call 1 service.GetEvent 0 ∷ event.Run 1 1 1 0 ∷ event.Call 1 service.WaitEvent 0 ∷ event.Left 1 service.TerminateTask ∷ event.Idle ∷ []) ≡ false
events_of_others-the_event_is_not_set = refl

events_of_others-waits_though_it_is_set : events_of_others (event.Enter 0 ∷ event.Call 0 service.SetEvent 7 ∷ event.Call 0 service.ActivateTask 0 ∷ event.Call 0 service.SetEvent 0 ∷ event.Left 0 service.TerminateTask ∷ event.Enter 1 ∷ event.Call 1 service.GetEvent 0 ∷ event.Run 1 1 1 1 ∷ event.Left 1 service.WaitEvent ∷ event.Left 1 service.TerminateTask ∷ event.Idle ∷ []) ≡ false
events_of_others-waits_though_it_is_set = refl

-- A task waits, and goes on with its registers.
abbrev waiting : List Event → Bool
waiting = accepts_behind_boot (system (full 2 true [] 1 ∷ full 1 true [] 0 ∷ []))
    (code (body 0 (op.Li 5 6 ∷ serve service.WaitEvent 0 1 ∷ op.AluImm imm.Addi 5 5 (pos 1) ∷ serve service.ClearEvent 0 1 ∷ serve service.TerminateTask 0 0 ∷ []) []
    ∷ body 1 (serve service.SetEvent 0 1 ∷ serve service.TerminateTask 0 0 ∷ []) [] ∷ []) [])

waiting_runs : waiting (event.Enter 0 ∷ event.Run 0 0 0 6 ∷ event.Left 0 service.WaitEvent ∷ event.Enter 1 ∷ event.Call 1 service.SetEvent 0 ∷ event.Enter 0 ∷ event.Run 0 0 2 7 ∷ event.Call 0 service.ClearEvent 0 ∷ event.Left 0 service.TerminateTask ∷ event.Left 1 service.TerminateTask ∷ event.Idle ∷ []) ≡ true
waiting_runs = refl

waiting-the_waiter_is_not_entered : waiting (event.Enter 0 ∷ event.Run 0 0 0 6 ∷ event.Left 0 service.WaitEvent ∷ event.Enter 1 ∷ event.Call 1 service.SetEvent 0 ∷ event.Left 1 service.TerminateTask ∷ event.Run 0 0 2 7 ∷ event.Call 0 service.ClearEvent 0 ∷ event.Left 0 service.TerminateTask ∷ event.Left 1 service.TerminateTask ∷ event.Idle ∷ []) ≡ false
waiting-the_waiter_is_not_entered = refl

waiting-started_anew : waiting (event.Enter 0 ∷ event.Run 0 0 0 6 ∷ event.Left 0 service.WaitEvent ∷ event.Enter 1 ∷ event.Call 1 service.SetEvent 0 ∷ event.Enter 0 ∷ event.Run 0 0 0 6 ∷ event.Call 0 service.ClearEvent 0 ∷ event.Left 0 service.TerminateTask ∷ event.Left 1 service.TerminateTask ∷ event.Idle ∷ []) ≡ false
waiting-started_anew = refl
