-- One event of the abstract scheduler.
use Rattle.std.specs.Prelude.{ℕ, ◌<◌, ◌≡◌, List, [], ◌∷◌, true, false, cond, length, Some}
use Rattle.sloth_base.specs.declared.config.Config.{Config}
use Rattle.sloth_base.specs.declared.config.TaskDecl.{TaskDecl}
use Rattle.sloth_base.specs.declared.app.App.{App}
use Rattle.sloth_base.specs.declared.app.Call.{Call}
use Rattle.sloth_base.specs.declared.app.Op.{Op}
use Rattle.sloth_base.specs.declared.app.Op.TheVariants as op
use Rattle.sloth_base.specs.declared.service.Event.{Event}
use Rattle.sloth_base.specs.declared.service.Event.TheVariants as event
use Rattle.sloth_base.specs.declared.service.Service.{Service}
use Rattle.osek_scheduler.specs.declared.state.TaskState.TheVariants as mode
use Rattle.osek_scheduler.specs.State.{Frame, Task, System, task, with_task, counter, with_counter, HasBody}
use Rattle.sloth_base.specs.Named.{declaration}
use Rattle.sloth_base.specs.Named.{function}
use Rattle.sloth_base.specs.Named as named
use Rattle.osek_scheduler.specs.Priority.{IsTop, IsDue, NoTicks, IsNextTick}
use Rattle.osek_scheduler.specs.Meaning.{ItemMeaning, meaning}
use Rattle.osek_scheduler.specs.Services.{if_suspended, activated_state, is_there, ServiceOutcome, GoesOn, Leaves, entered_state, ticked_state}
use Rattle.osek_scheduler.specs.Outcomes.{outcome}

-- every event but an admission empties `fresh`
abbrev pub settled_state : System → System
settled_state s = record s { fresh = [] }

-- the tasks with each Ready that the configuration starts by itself
abbrev pub autostarted_tasks : List TaskDecl → List Task → List Task
autostarted_tasks [] tasks = tasks
autostarted_tasks (d ∷ declarations) [] = []
autostarted_tasks (d ∷ declarations) (t ∷ tasks) = cond d.autostart (record t { state = mode.Ready }) t ∷ autostarted_tasks declarations tasks

-- an activation from outside
abbrev pub admitted_state : ℕ → System → System
admitted_state t s = if_suspended (task s t).state (record (activated_state s t) { fresh = t ∷ s.fresh }) s

-- an arrival of a counter's line
abbrev pub due_state : ℕ → System → System
due_state c s = with_counter s c (record (counter s c) { due = true })

-- a task runs and owes no `back`; its next operation is this one
pub record IsAt (app : App) (s : System) (t : ℕ) (operation : Op) : Type 0 where
  pub active : (task s t).state ≡ mode.Active
  pub free : (task s t).owed ≡ false
  pub frame : Frame
  pub outer : List Frame
  pub frames : (task s t).frames ≡ frame ∷ outer
  pub inside : frame.item < length (function app frame.func).items
  pub next : named.operation app frame.func frame.item ≡ operation

-- the running task executes an item that is no service
pub record IsItemStep (config : Config) (app : App) (t func item result : ℕ) (s next : System) : Type 0 where
  pub top : IsTop config s [] t
  pub operation : Op
  pub at : IsAt app s t operation
  pub in_function : at.frame.func ≡ func
  pub at_item : at.frame.item ≡ item
  pub meant : ItemMeaning
  pub means : meaning app operation (task s t).registers at.frame at.outer s.symbols ≡ Some meant
  pub shows : meant.result ≡ result
  pub is : next ≡ settled_state (record (with_task s t (record (task s t) { registers = meant.registers; frames = meant.frames })) { symbols = meant.symbols })

-- the running task calls a service, with this outcome; arrivals admitted since the last event did not preempt it yet
pub record IsServiceStep (config : Config) (app : App) (t : ℕ) (served : Service) (s : System) (answer : ServiceOutcome) : Type 0 where
  pub top : IsTop config s s.fresh t
  pub call : Call
  pub at : IsAt app s t (op.Serve call)
  pub same : call.service ≡ served
  pub names : is_there config (task s t).held served call.object ≡ true
  pub is : outcome config served call.object call.mask t s ≡ answer

-- the next state after an event
abbrev pub OsekStep : Config → App → Event → System → System → Type 0
OsekStep config app event.Boot s next =
    (s.booted ≡ false) × (next ≡ settled_state (record s { tasks = autostarted_tasks config.tasks s.tasks; booted = true }))
OsekStep config app (event.Admit t) s next = (s.booted ≡ true) × (t < length config.tasks) × (next ≡ admitted_state t s)
OsekStep config app (event.Enter t) s next =
    (s.booted ≡ true) × IsTop config s [] t × ((task s t).state ≡ mode.Ready) × HasBody app t × (next ≡ settled_state (entered_state config app t s))
OsekStep config app (event.Run t func item result) s next = (s.booted ≡ true) × IsItemStep config app t func item result s next
OsekStep config app (event.Call t served status) s next =
    (s.booted ≡ true) × ((after : System) × IsServiceStep config app t served s (GoesOn status after) × (next ≡ settled_state after))
OsekStep config app (event.Left t served) s next =
    (s.booted ≡ true) × ((after : System) × IsServiceStep config app t served s (Leaves after) × (next ≡ settled_state after))
OsekStep config app (event.Back t) s next =
    (s.booted ≡ true) × IsTop config s [] t × ((task s t).state ≡ mode.Active) × ((task s t).owed ≡ true)
    × (next ≡ settled_state (with_task s t (record (task s t) { owed = false; raised = (declaration config t).non })))
OsekStep config app event.Idle s next =
    (s.booted ≡ true) × ((t : ℕ) → t < length config.tasks → ¬ (IsDue s t)) × NoTicks config s × (next ≡ settled_state s)
OsekStep config app (event.Due c) s next = (s.booted ≡ true) × (c < length config.counters) × (next ≡ due_state c s)
OsekStep config app (event.Tick c) s next = (s.booted ≡ true) × IsNextTick config s c × (next ≡ settled_state (ticked_state config c s))
OsekStep config app event.Stray s next = ⊥
