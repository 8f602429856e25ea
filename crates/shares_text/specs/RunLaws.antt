-- What verdicts promise of every run of the abstract scheduler.
use Rattle.std.specs.Prelude.{ℕ, ◌<◌, ◌≡◌, ◌≢◌, ◌||◌, List, [], ◌∷◌, ◌++◌, true, false, length, get_or, Some}
use Rattle.sloth_base.specs.declared.config.Config.{Config}
use Rattle.sloth_base.specs.declared.app.App.{App}
use Rattle.sloth_base.specs.declared.service.Event.{Event}
use Rattle.sloth_base.specs.declared.service.Event.TheVariants as event
use Rattle.sloth_base.specs.declared.service.Stamped.{Stamped}
use Rattle.sloth_base.specs.Events.{working_task}
use Rattle.sloth_base.specs.Limits.{ceiling_count}
use Rattle.sloth_base.specs.Named.{operation}
use Rattle.code_rules.specs.Code.{is_in}
use Rattle.code_rules.specs.WellFormed.{WellFormed}
use Rattle.call_graph.specs.Bits.{is_member}
use Rattle.osek_scheduler.specs.State.{System, task, opening}
use Rattle.osek_scheduler.specs.Runs.{AreStepsTo, OsekRun}
use Rattle.osek_scheduler.specs.Apart.{AreTwo, IsActive}
use Rattle.osek_blocking.specs.Blocking.{IsRaisedTo}
use Rattle.osek_blocking.specs.Walks.{Place, Position}
use Rattle.shares_text.specs.declared.verdict.Verdict.{Verdict}
use Rattle.shares_text.specs.declared.verdict.Verdict.TheVariants as verdict
use Rattle.shares_text.specs.Accesses.{symbol_of, stores_at, IsUse}
use Rattle.shares_text.specs.Verdicts.{AreVerdicts}

-- ---- sections

-- In each state in which task t is Active with a current priority of at least the static priority of another task u, the next event is no `run` or `call`
-- of u. A section of t for u is where each state is so: up to t's end, its wait, or what lowers it below u. Where u is the lower one, that is from t's
-- entry to its end or wait.
abbrev pub KeepsSections : Config → App → List Stamped → Type 0
KeepsSections config app events =
    (front rest : List Stamped) (e : Stamped) (t u : ℕ) (found : System) → events ≡ front ++ e ∷ rest → AreTwo config t u
    → AreStepsTo config app front (opening config app) found → IsActive found t → IsRaisedTo config found t u → working_task e.event ≡ Some u → ⊥

-- every run does
abbrev pub RunsKeepSections : Type 0
RunsKeepSections = (config : Config) (app : App) (events : List Stamped) → WellFormed config app → OsekRun config app events → KeepsSections config app events

-- ---- accesses

-- the event is a use of symbol y by task t, at this place
pub record IsUseEvent (app : App) (y t : ℕ) (here : Place) (e : Event) : Type 0 where
  pub result : ℕ
  pub is : e ≡ event.Run t here.func here.item result
  pub accesses : symbol_of (operation app here.func here.item) ≡ Some y

-- task t holds resource r in each state that these events lead through from s, the last excepted
abbrev pub HoldsThroughout : Config → App → (t r : ℕ) → System → List Stamped → Type 0
HoldsThroughout config app t r s events =
    (front rest : List Stamped) (e : Stamped) (found : System) → events ≡ front ++ e ∷ rest → AreStepsTo config app front s found
    → is_in r (task found t).held ≡ true

-- at each use of symbol y resource r is held, and no use by another task comes in one holding of it
pub record KeepsGuard (config : Config) (app : App) (y r : ℕ) (events : List Stamped) : Type 0 where
  pub held : (front rest : List Stamped) (e : Stamped) (t : ℕ) (here : Place) (found : System) → events ≡ front ++ e ∷ rest → IsUseEvent app y t here e.event
      → AreStepsTo config app front (opening config app) found → is_in r (task found t).held ≡ true
  pub apart : (before between behind : List Stamped) (e w : Stamped) (t u : ℕ) (here there : Place) (s : System)
      → events ≡ before ++ e ∷ (between ++ w ∷ behind) → IsUseEvent app y t here e.event → IsUseEvent app y u there w.event
      → AreStepsTo config app before (opening config app) s → HoldsThroughout config app t r s (e ∷ (between ++ w ∷ [])) → u ≡ t

-- at each use of symbol y its task is raised to each higher one that has a use, where one of both is a store
abbrev pub KeepsOrder : Config → App → (y : ℕ) → List Stamped → Type 0
KeepsOrder config app y events =
    (front rest : List Stamped) (e : Stamped) (t u : ℕ) (here there : Place) (outer : Position) (found : System) → events ≡ front ++ e ∷ rest
    → IsUseEvent app y t here e.event → AreStepsTo config app front (opening config app) found
    → IsUse app y u there outer → (stores_at app here || stores_at app there) ≡ true → t ≢ u → IsRaisedTo config found t u

-- what the verdict on symbol y promises of these events
abbrev pub KeepsVerdict : Config → App → (y : ℕ) → Verdict → List Stamped → Type 0
KeepsVerdict config app y verdict.Unused events =
    (front rest : List Stamped) (e : Stamped) (t : ℕ) (here : Place) → events ≡ front ++ e ∷ rest → ¬ (IsUseEvent app y t here e.event)
KeepsVerdict config app y (verdict.One t) events =
    (front rest : List Stamped) (e : Stamped) (u : ℕ) (here : Place) → events ≡ front ++ e ∷ rest → IsUseEvent app y u here e.event → u ≡ t
KeepsVerdict config app y (verdict.Reads members) events =
    (front rest : List Stamped) (e : Stamped) (t : ℕ) (here : Place) → events ≡ front ++ e ∷ rest → IsUseEvent app y t here e.event
    → stores_at app here ≡ false
KeepsVerdict config app y (verdict.Guarded members) events =
    (r : ℕ) → r < ceiling_count → is_member members r ≡ true → KeepsGuard config app y r events
KeepsVerdict config app y (verdict.Ordered list) events = KeepsOrder config app y events
KeepsVerdict config app y (verdict.Open p) events = Unit {0}

-- every run keeps what these verdicts promise, and sections
pub record RunsKeepApart (config : Config) (app : App) (verdicts : List Verdict) : Type 0 where
  pub promises : (events : List Stamped) (y : ℕ) → OsekRun config app events → y < length app.symbols
      → KeepsVerdict config app y (get_or verdicts y verdict.Unused) events
  pub sections : (events : List Stamped) → OsekRun config app events → KeepsSections config app events

-- of well-formed task code
abbrev pub RunsKeepVerdicts : Type 0
RunsKeepVerdicts = (config : Config) (app : App) (verdicts : List Verdict) → WellFormed config app → AreVerdicts config app verdicts
    → RunsKeepApart config app verdicts
