-- The plan of the next event of a task.
use Rattle.std.specs.Prelude.{ℕ, ◌≤◌, ◌==◌, ◌&&◌, List, [], Bool, not, cond, length, Option, Some, None, slice_get}
use Rattle.std.specs.List.{list_all}
use Rattle.sloth_base.specs.Options.{is_number}
use Rattle.sloth_base.specs.ServiceCodes.{code_of}
use Rattle.sloth_base.specs.declared.config.Config.{Config}
use Rattle.sloth_base.specs.declared.app.App.{App}
use Rattle.sloth_base.specs.declared.app.Call.{Call}
use Rattle.sloth_base.specs.declared.app.Op.{Op}
use Rattle.sloth_base.specs.declared.app.Op.TheVariants as op
use Rattle.sloth_base.specs.declared.service.Service.{Service}
use Rattle.code_rules.specs.AppRange.{IsNumberOf}
use Rattle.osek_scheduler.specs.State.{Frame, Task, System, task}
use Rattle.sloth_base.specs.Named.{declaration, body_of}
use Rattle.osek_scheduler.specs.Priority.{is_active}
use Rattle.osek_scheduler.specs.Meaning.{is_own, registers_of, on_some, if_true}
use Rattle.osek_scheduler.specs.Services.{is_there}
use Rattle.osek_scheduler.specs.Next.{is_ready, is_top, is_position}
use Rattle.osek_scheduler.specs.declared.change.TaskChange.TheVariants as change
use Rattle.osek_scheduler.specs.declared.change.Other.TheVariants as other
use Rattle.osek_scheduler.specs.declared.change.Plan.{Plan}
use Rattle.osek_scheduler.specs.Outcomes.{plan}
use Rattle.osek_machine.specs.Plans.{item_plan, service_plan}

-- the numbers in an operation are in range
abbrev pub IsComputed : Op → Type 0
IsComputed (op.AluImm kind rd rs number) = IsNumberOf kind number
IsComputed (op.Lui rd number) = number ≤ 1048575
IsComputed _ = Unit {0}

-- the next operation of functions in progress
abbrev pub next_operation : App → List Frame → Option Op
next_operation app frames = on_some (slice_get frames 0)
    (λ frame. on_some (slice_get app.funcs frame.func) (λ f. on_some (slice_get f.items frame.item) (λ item. Some item.op)))

-- the next operation of a task that runs and owes no `back`
abbrev pub own_operation : App → Task → Option Op
own_operation app k = if_true (is_active k.state && not k.owed) (next_operation app k.frames)

-- the plan of an item that is no service
abbrev pub run_plan : App → Op → Task → List (List ℕ) → Option Plan
run_plan app o k symbols = if_true (list_all is_own (registers_of o))
    (on_some (slice_get k.frames 0) (λ frame. on_some (slice_get app.funcs frame.func) (λ f. item_plan app o f frame (length k.frames) k.registers symbols)))

-- the call that an operation is
abbrev pub call_in : Op → Option Call
call_in (op.Serve call) = Some call
call_in (op.Alu k a b c) = None
call_in (op.AluImm k a b c) = None
call_in (op.Lui a b) = None
call_in (op.Li a b) = None
call_in (op.FrameLoad a b) = None
call_in (op.FrameStore a b) = None
call_in (op.Load w a b c) = None
call_in (op.Store w a b c) = None
call_in (op.LoadAt w a b c d) = None
call_in (op.StoreAt w a b c d) = None
call_in (op.Branch k a b c) = None
call_in (op.Jump a) = None
call_in (op.Invoke a) = None
call_in op.Return = None

-- the plan of a call of this service, where what it names is there
abbrev pub call_plan : Config → Service → ℕ → System → Call → Option Plan
call_plan config served t s call =
    if_true ((code_of call.service == code_of served) && is_there config (task s t).held served call.object)
    (Some (service_plan config served call.object call.mask t s))

-- the plan of a service, where that is the next item of the running task
abbrev pub serving_plan : Config → App → ℕ → Service → System → Option Plan
serving_plan config app t served s = if_true (s.booted && is_top config s s.fresh t)
    (on_some (own_operation app (task s t)) (λ o. on_some (call_in o) (call_plan config served t s)))

-- the plan of a run of an item
abbrev pub running_plan : Config → App → (t func item result : ℕ) → System → Option Plan
running_plan config app t func item result s = if_true (s.booted && (is_top config s [] t && is_position func item (task s t).frames))
    (on_some (own_operation app (task s t)) (λ o. on_some (run_plan app o (task s t) s.symbols) (λ p. if_true (is_number result p.answer) (Some p))))

-- the change of a task that is entered: with no function in progress it starts at its body
abbrev pub entry_change : (body words depth : ℕ) → (non : Bool) → Plan
entry_change body words depth non =
    plan None (cond (depth == 0) (change.Start body words non) (change.Resume non)) other.Nothing

-- the plan of an entry
abbrev pub entry_plan : Config → App → ℕ → System → Option Plan
entry_plan config app t s = if_true (s.booted && (is_top config s [] t && is_ready (task s t).state))
    (on_some (slice_get app.funcs (body_of app.funcs t))
    (λ f. Some (entry_change (body_of app.funcs t) f.frame_words (length (task s t).frames) (declaration config t).non)))

-- the plan of a return from Schedule
abbrev pub back_plan : Config → ℕ → System → Option Plan
back_plan config t s = if_true (s.booted && (is_top config s [] t && (is_active (task s t).state && (task s t).owed)))
    (Some (plan None (change.ComeBack (declaration config t).non) other.Nothing))
