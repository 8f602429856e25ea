-- What every step of the abstract scheduler keeps true of each task, and of the counters and alarms.
use Rattle.std.specs.Prelude.{ℕ, ◌<◌, ◌≤◌, ◌≡◌, ◌≢◌, ◌⊎◌, ◌++◌, List, [], ◌∷◌, true, false, not, ◌&&◌, length, get_or, map}
use Rattle.sloth_base.specs.declared.config.Config.{Config}
use Rattle.sloth_base.specs.declared.app.App.{App}
use Rattle.sloth_base.specs.declared.app.Op.TheVariants as op
use Rattle.sloth_base.specs.Named.{function, declaration, counter_declaration, body_of}
use Rattle.sloth_base.specs.ConfigRange.{scheduler_number}
use Rattle.code_rules.specs.Code.{IsItem, is_in}
use Rattle.code_rules.specs.WellFormed.{held_list_before, HasResource, HasEvents}
use Rattle.osek_scheduler.specs.declared.state.TaskState.{TaskState}
use Rattle.osek_scheduler.specs.declared.state.TaskState.TheVariants as mode
use Rattle.osek_scheduler.specs.State.{Frame, Task, Clock, System, task, no_counter}

-- ---- calls in progress

-- a function that was entered: it stands before one of its items, with as many words as it declares
pub record IsFrame (app : App) (frame : Frame) : Type 0 where
  pub known : frame.func < length app.funcs
  pub inside : frame.item < length (function app frame.func).items
  pub words : length frame.words ≡ (function app frame.func).frame_words

-- Function f was called by the first of these, which stands at that call, that one by the next, and so on. Without a caller f is the task's body.
abbrev pub IsCalledFrom : App → (t f : ℕ) → List Frame → Type 0
IsCalledFrom app t f [] = f ≡ body_of app.funcs t
IsCalledFrom app t f (caller ∷ outer) = IsFrame app caller × IsItem app caller.func caller.item (op.Invoke f) × IsCalledFrom app t caller.func outer

-- the frames of a task are a chain of calls from its body to its innermost function
abbrev pub AreCalls : App → ℕ → List Frame → Type 0
AreCalls app t [] = Unit {0}
AreCalls app t (frame ∷ outer) = IsFrame app frame × IsCalledFrom app t frame.func outer

-- what the functions in progress hold before their items, the outermost's first
abbrev pub held_by : App → List Frame → List ℕ
held_by app [] = []
held_by app (frame ∷ outer) = held_by app outer ++ held_list_before app frame.func frame.item

-- ---- one task

-- a task may hold RES_SCHEDULER and the resources that it lists
abbrev pub MayHold : Config → (t r : ℕ) → Type 0
MayHold config t r = (r ≡ scheduler_number) ⊎ HasResource (declaration config t) r

-- no number occurs twice
abbrev pub AreDistinct : List ℕ → Type 0
AreDistinct [] = Unit {0}
AreDistinct (r ∷ rs) = (is_in r rs ≡ false) × AreDistinct rs

-- a task that is not Active holds no resource, and owes no `back`
pub record IsAtRest (own : Task) : Type 0 where
  pub holds : own.held ≡ []
  pub not_owed : own.owed ≡ false
  pub not_raised : own.raised ≡ false

-- what its state says of task t
abbrev pub InState : Config → (t : ℕ) → Task → TaskState → Type 0
InState config t own mode.Suspended = IsAtRest own × (own.frames ≡ []) × (own.events ≡ 0)
InState config t own mode.Ready = IsAtRest own × ((own.frames ≡ []) ⊎ ((declaration config t).extended ≡ true))
InState config t own mode.Active =
    (own.frames ≢ []) × (own.raised ≡ ((declaration config t).non && not own.owed)) × (own.owed ≡ true → own.held ≡ [])
InState config t own (mode.Waiting mask) =
    IsAtRest own × (own.frames ≢ []) × ((declaration config t).extended ≡ true) × HasEvents (declaration config t) mask

-- what every step keeps true of task t
pub record IsValidTask (config : Config) (app : App) (t : ℕ) (own : Task) : Type 0 where
  pub registers : length own.registers ≡ 25
  pub calls : AreCalls app t own.frames
  pub held : own.held ≡ held_by app own.frames
  pub listed : (r : ℕ) → is_in r own.held ≡ true → MayHold config t r
  pub distinct : AreDistinct own.held
  pub events : HasEvents (declaration config t) own.events
  pub in_state : InState config t own own.state

-- ---- counters and alarms

-- there is one of each for each declaration, and no value is above its counter's greatest
pub record IsTimed (config : Config) (clock : Clock) : Type 0 where
  pub counters : length clock.counters ≡ length config.counters
  pub alarms : length clock.alarms ≡ length config.alarms
  pub values : (c : ℕ) → (get_or clock.counters c no_counter).value ≤ (counter_declaration config c).max

-- ---- the whole system

-- what every step keeps true of the system
pub record IsValid (config : Config) (app : App) (s : System) : Type 0 where
  pub count : length s.tasks ≡ length config.tasks
  pub each : (t : ℕ) → t < length config.tasks → IsValidTask config app t (task s t)
  -- the data keep their sizes
  pub sizes : map length s.symbols ≡ map (λ y. length y.bytes) app.symbols
  pub asleep : s.booted ≡ false → (t : ℕ) → (task s t).state ≡ mode.Suspended
  pub clock : IsTimed config s.clock
