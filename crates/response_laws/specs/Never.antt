-- Tasks that never come, in any run whose arrivals keep a load.
use Rattle.std.specs.Prelude.{ℕ, ◌<◌, ◌≡◌, ◌⊎◌, List, Bool, true, false, length, None}
use Rattle.std.specs.List.{AllByRecursion}
use Rattle.sloth_base.specs.declared.config.Config.{Config}
use Rattle.sloth_base.specs.declared.app.App.{App}
use Rattle.sloth_base.specs.declared.service.Arrival.{Arrival}
use Rattle.sloth_base.specs.declared.service.Stamped.{Stamped}
use Rattle.sloth_base.specs.Named.{declaration, alarm_declaration}
use Rattle.sloth_base.specs.Owners.{counter_line}
use Rattle.code_rules.specs.WellFormed.{WellFormed}
use Rattle.load_text.specs.declared.load_line.Entry.{Entry}
use Rattle.load_text.specs.Loads.{distance, KeepDistances}
use Rattle.osek_scheduler.specs.declared.state.TaskState.TheVariants as mode
use Rattle.osek_scheduler.specs.State.{System, task, counter, alarm}
use Rattle.osek_scheduler.specs.InTime.{InTime}
use Rattle.osek_scheduler.specs.Runs.{OsekRun}
use Rattle.osek_blocking.specs.Walks.{Position}
use Rattle.osek_blocking.specs.Sections.{operation_at}
use Rattle.walk_sums.specs.Rounds.{Reaches}
use Rattle.run_counts.specs.Stages.{run_stages}
use Rattle.response_laws.specs.Made.{is_making}
use Rattle.response_laws.specs.Ticks.{activates}
use Rattle.response_laws.specs.Expiries.{sets_alarm}

-- a line arrives, by the load
abbrev pub Arrives : List Entry → (line : ℕ) → Type 0
Arrives load line = (distance load line ≡ None) → ⊥

-- a task of the configuration comes
abbrev pub IsComing : Config → (comes : ℕ → Bool) → (t : ℕ) → Type 0
IsComing config comes t = (t < length config.tasks) × (comes t ≡ true)

-- an alarm is used: it starts with the system, or a task that comes reaches an item that sets it
abbrev pub IsUsed : Config → App → (comes : ℕ → Bool) → (a : ℕ) → Type 0
IsUsed config app comes a =
    ((alarm_declaration config a).time ≡ 0 → ⊥)
    ⊎ ((k : ℕ) × (at : Position) × IsComing config comes k × Reaches app k at × (sets_alarm a (operation_at app at) ≡ true))

-- What may make a task Ready makes only tasks that come: the start of the system, an arrival, an item that a task which comes reaches, an alarm that is used of a
-- counter that arrives.
pub record AreClosed (config : Config) (app : App) (load : List Entry) (comes : ℕ → Bool) : Type 0 where
  pub starts : (t : ℕ) → t < length config.tasks → (declaration config t).autostart ≡ true → comes t ≡ true
  pub arrives : (t : ℕ) → t < length config.tasks → Arrives load t → comes t ≡ true
  pub named : (k t : ℕ) (at : Position) → t < length config.tasks → IsComing config comes k → Reaches app k at → is_making t (operation_at app at) ≡ true → comes t ≡ true
  pub expires : (a t : ℕ) → a < length config.alarms → t < length config.tasks → Arrives load (counter_line (alarm_declaration config a).counter)
      → activates t (alarm_declaration config a).action ≡ true → IsUsed config app comes a → comes t ≡ true

-- no other task is awake
abbrev pub OthersSleep : (comes : ℕ → Bool) → System → Type 0
OthersSleep comes s = (t : ℕ) → comes t ≡ false → (task s t).state ≡ mode.Suspended

-- nor is a counter due that does not arrive, or does an alarm run that is not used
pub record NoneComes (config : Config) (app : App) (load : List Entry) (comes : ℕ → Bool) (s : System) : Type 0 where
  pub asleep : OthersSleep comes s
  pub undue : (c : ℕ) → (distance load (counter_line c) ≡ None) → (counter s c).due ≡ false
  pub unused : (a : ℕ) → a < length config.alarms → ¬ (IsUsed config app comes a) → (alarm s a).left ≡ 0

-- In every run of well-formed task code whose arrivals keep a load no event finds another task but Suspended, or leaves it so.
abbrev pub OthersNeverCome : Type 0
OthersNeverCome = (config : Config) (app : App) (load : List Entry) (comes : ℕ → Bool) (n : ℕ) (arrivals : List Arrival) (events : List Stamped)
    → WellFormed config app → OsekRun config app events → InTime config n arrivals events → KeepDistances load arrivals → AreClosed config app load comes
    → AllByRecursion (λ x. NoneComes config app load comes x.found × NoneComes config app load comes x.next) (run_stages config app events)
