-- The next state, computed: what a checker of event lists does.
use Rattle.std.specs.Prelude.{ℕ, zero, suc, ◌==◌, List, [], ◌∷◌, Bool, true, false, not, ◌&&◌, ◌||◌, leb, ltb, length, Option, Some, None}
use Rattle.sloth_base.specs.ServiceCodes.{code_of}
use Rattle.sloth_base.specs.declared.config.Config.{Config}
use Rattle.sloth_base.specs.declared.app.App.{App}
use Rattle.sloth_base.specs.declared.app.Op.{Op}
use Rattle.sloth_base.specs.declared.app.Op.TheVariants as op
use Rattle.sloth_base.specs.declared.service.Event.{Event}
use Rattle.sloth_base.specs.declared.service.Event.TheVariants as event
use Rattle.sloth_base.specs.declared.service.Service.{Service}
use Rattle.osek_scheduler.specs.declared.state.TaskState.{TaskState}
use Rattle.osek_scheduler.specs.declared.state.TaskState.TheVariants as mode
use Rattle.osek_scheduler.specs.State.{Frame, Task, System, task, with_task, counter}
use Rattle.sloth_base.specs.Named.{declaration, body_of, function, operation}
use Rattle.osek_scheduler.specs.Priority.{rank, is_active}
use Rattle.code_rules.specs.Code.{is_in}
use Rattle.osek_scheduler.specs.Meaning.{ItemMeaning, meaning, on_some, if_true}
use Rattle.osek_scheduler.specs.Services.{is_there, ServiceOutcome, GoesOn, Leaves, entered_state, ticked_state}
use Rattle.osek_scheduler.specs.Outcomes.{outcome}
use Rattle.osek_scheduler.specs.Steps.{settled_state, autostarted_tasks, admitted_state, due_state}

-- a task is Ready
abbrev pub is_ready : TaskState → Bool
is_ready mode.Suspended = false
is_ready mode.Ready = true
is_ready mode.Active = false
is_ready (mode.Waiting mask) = false

-- a task is Ready or Active
abbrev pub is_due : System → ℕ → Bool
is_due s t = is_ready (task s t).state || is_active (task s t).state

-- a test that holds of each number below n
abbrev pub all_below : ℕ → (ℕ → Bool) → Bool
all_below zero test = true
all_below (suc n) test = test n && all_below n test

-- the task u is not due, or left out, or of no greater rank than t
abbrev pub yields_to : Config → System → List ℕ → ℕ → ℕ → Bool
yields_to config s others t u = not (is_due s u) || (is_in u others || leb (rank config s u) (rank config s t))

-- no counter is due
abbrev pub no_ticks : Config → System → Bool
no_ticks config s = all_below (length config.counters) (λ c. not (counter s c).due)

-- a counter is due, and none of lower number is
abbrev pub is_next_tick : Config → System → ℕ → Bool
is_next_tick config s c = ltb c (length config.counters) && ((counter s c).due && all_below c (λ d. not (counter s d).due))

-- a task is the greatest of those that are due and not left out, and no counter is due
abbrev pub is_top : Config → System → List ℕ → ℕ → Bool
is_top config s others t =
    ltb t (length config.tasks)
    && (is_due s t && (not (is_in t others) && (all_below (length config.tasks) (yields_to config s others t) && no_ticks config s)))

-- the next operation of a task with these frames
abbrev pub operation_of : App → List Frame → Option Op
operation_of app [] = None
operation_of app (frame ∷ outer) =
    if_true (ltb frame.item (length (function app frame.func).items))
    (Some (operation app frame.func frame.item))

-- the same of a task that runs and owes no `back`
abbrev pub operation_at : App → Task → Option Op
operation_at app t = if_true (is_active t.state && not t.owed) (operation_of app t.frames)

-- the meaning of an operation for a task with these frames
abbrev pub meaning_of : App → Op → Task → List Frame → System → Option ItemMeaning
meaning_of app operation t [] s = None
meaning_of app operation t (frame ∷ outer) s = meaning app operation t.registers frame outer s.symbols

-- the next item of these frames is this one of this function
abbrev pub is_position : ℕ → ℕ → List Frame → Bool
is_position func item [] = false
is_position func item (frame ∷ outer) = (frame.func == func) && (frame.item == item)

-- the outcome of the service that an operation is, where it is this one, and what it names is there
abbrev pub served_outcome : Config → Service → ℕ → System → Op → Option ServiceOutcome
served_outcome config s caller before (op.Serve call) =
    if_true ((code_of call.service == code_of s) && is_there config (task before caller).held s call.object)
    (Some (outcome config s call.object call.mask caller before))
served_outcome config s caller before (op.Alu k a b c) = None
served_outcome config s caller before (op.AluImm k a b c) = None
served_outcome config s caller before (op.Lui a b) = None
served_outcome config s caller before (op.Li a b) = None
served_outcome config s caller before (op.FrameLoad a b) = None
served_outcome config s caller before (op.FrameStore a b) = None
served_outcome config s caller before (op.Load w a b c) = None
served_outcome config s caller before (op.Store w a b c) = None
served_outcome config s caller before (op.LoadAt w a b c d) = None
served_outcome config s caller before (op.StoreAt w a b c d) = None
served_outcome config s caller before (op.Branch k a b c) = None
served_outcome config s caller before (op.Jump a) = None
served_outcome config s caller before (op.Invoke a) = None
served_outcome config s caller before op.Return = None

-- the state after an outcome that goes on with this status
abbrev pub going_on_system : ℕ → ServiceOutcome → Option System
going_on_system status (GoesOn given after) = if_true (given == status) (Some (settled_state after))
going_on_system status (Leaves after) = None

-- the state after an outcome with which the caller leaves
abbrev pub left_state : ServiceOutcome → Option System
left_state (GoesOn given after) = None
left_state (Leaves after) = Some (settled_state after)

-- the state after an item with this meaning, where it shows this result
abbrev pub executed_state : ℕ → ℕ → System → ItemMeaning → Option System
executed_state t result s meant = if_true (meant.result == result)
    (Some (settled_state (record (with_task s t (record (task s t) { registers = meant.registers; frames = meant.frames })) { symbols = meant.symbols })))

-- the outcome of a call of this service by this task, where that is its next item
abbrev pub answer_to : Config → App → ℕ → Service → System → Option ServiceOutcome
answer_to config app t s before =
    if_true (before.booted && is_top config before before.fresh t) (on_some (operation_at app (task before t)) (served_outcome config s t before))

-- the state after an event, where it may come
abbrev pub next_state : Config → App → Event → System → Option System
next_state config app event.Boot s = if_true (not s.booted) (Some (settled_state (record s { tasks = autostarted_tasks config.tasks s.tasks; booted = true })))
next_state config app (event.Admit t) s = if_true (s.booted && ltb t (length config.tasks)) (Some (admitted_state t s))
next_state config app (event.Enter t) s =
    if_true (s.booted && (is_top config s [] t && (is_ready (task s t).state && ltb (body_of app.funcs t) (length app.funcs))))
    (Some (settled_state (entered_state config app t s)))
next_state config app (event.Run t func item result) s =
    if_true (s.booted && (is_top config s [] t && is_position func item (task s t).frames))
    (on_some (operation_at app (task s t)) (λ operation. on_some (meaning_of app operation (task s t) (task s t).frames s) (executed_state t result s)))
next_state config app (event.Call t s status) before = on_some (answer_to config app t s before) (going_on_system status)
next_state config app (event.Left t s) before = on_some (answer_to config app t s before) left_state
next_state config app (event.Back t) s =
    if_true (s.booted && (is_top config s [] t && (is_active (task s t).state && (task s t).owed)))
    (Some (settled_state (with_task s t (record (task s t) { owed = false; raised = (declaration config t).non }))))
next_state config app event.Idle s =
    if_true (s.booted && (all_below (length config.tasks) (λ t. not (is_due s t)) && no_ticks config s)) (Some (settled_state s))
next_state config app (event.Due c) s = if_true (s.booted && ltb c (length config.counters)) (Some (due_state c s))
next_state config app (event.Tick c) s = if_true (s.booted && is_next_tick config s c) (Some (settled_state (ticked_state config c s)))
next_state config app event.Stray s = None
