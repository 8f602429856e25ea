-- Starts that hold what lower tasks bring in, said of the task code.
use Rattle.std.specs.Prelude.{ℕ, ◌+◌, ◌*◌, ◌<◌, ◌≤◌, ◌≡◌, ◌⊎◌, List, Bool, true, false, cond, length, Some}
use Rattle.std.specs.List.{AllByRecursion}
use Rattle.sloth_base.specs.declared.config.Config.{Config}
use Rattle.sloth_base.specs.declared.app.App.{App}
use Rattle.sloth_base.specs.declared.app.Op.{Op}
use Rattle.sloth_base.specs.declared.app.Op.TheVariants as op
use Rattle.sloth_base.specs.declared.service.Arrival.{Arrival}
use Rattle.sloth_base.specs.declared.service.Stamped.{Stamped}
use Rattle.sloth_base.specs.declared.service.Service.TheVariants as service
use Rattle.sloth_base.specs.Named.{declaration}
use Rattle.code_rules.specs.WellFormed.{WellFormed}
use Rattle.load_text.specs.declared.load_line.Entry.{Entry}
use Rattle.osek_scheduler.specs.InTime.{InTime}
use Rattle.osek_scheduler.specs.Runs.{OsekRun}
use Rattle.osek_blocking.specs.Walks.{Position}
use Rattle.osek_blocking.specs.Sections.{operation_at, IsLower}
use Rattle.bound_rules.specs.declared.bound.BodyWeights.{BodyWeights}
use Rattle.walk_sums.specs.Weights.{going_at, ending_at}
use Rattle.walk_sums.specs.Rounds.{Reaches}
use Rattle.walk_sums.specs.Counted.{calls}
use Rattle.sim_induction.specs.Pace.{ItemSizes, AreAtMost}
use Rattle.sim_induction.specs.Spent.{SpendsOnItems}
use Rattle.run_counts.specs.Stages.{run_stages}
use Rattle.run_counts.specs.Laws.{IsWithinWeights}
use Rattle.run_counts.specs.Spending.{WeighsItems}
use Rattle.run_counts.specs.Rounds.{WeighsEndings}
use Rattle.response_laws.specs.Sums.{is_over}
use Rattle.response_laws.specs.Demand.{Start}
use Rattle.response_laws.specs.Walked.{FirstRoundsSum, LaterRoundsSum, SectionsSum}
use Rattle.response_laws.specs.Once.{IsShutOut}
use Rattle.response_laws.specs.Never.{OthersSleep}
use Rattle.response_laws.specs.Works.{KeepsWork, WorksWithin, WaitsNowhere}
use Rattle.response_laws.specs.Makers.{activation_weights, setting_weights}
use Rattle.response_laws.specs.Starts.{begun_item, HaveStarts}

-- ---- single events

-- A start has so many counts behind its first event, with an item that a lower task has begun if it is not boot, and so many in front of its end; and these makings of the
-- tasks of at least the static priority of h.
pub record HasRoom (config : Config) (h longest counts ahead : ℕ) (makes signals : ℕ → ℕ) (s : Start) : Type 0 where
  pub front : counts + begun_item longest s ≤ s.inflow.front
  pub lead : ahead ≤ s.lead
  pub acts : (j : ℕ) → is_over config h j ≡ true → makes j ≤ s.inflow.acts j
  pub sets : (j : ℕ) → is_over config h j ≡ true → signals j ≤ s.inflow.sets j

-- one of the starts has, which may be boot where this is asked
abbrev pub SomeHasRoom : Config → (h longest starts : ℕ) → (ℕ → Start) → (boot : Bool) → (counts lead : ℕ) → (makes signals : ℕ → ℕ) → Type 0
SomeHasRoom config h longest starts start boot counts lead makes signals =
    (i : ℕ) × (i < starts) × ((start i).is_boot ≡ true → boot ≡ true) × HasRoom config h longest counts lead makes signals (start i)

-- A service has one as the first event of a period, with what its stretch may stand in front; and one behind admissions that come while it is running.
abbrev pub HaveServiceRoom : Config → (h longest late starts : ℕ) → (ℕ → Start) → (counts : ℕ) → (makes signals : ℕ → ℕ) → Type 0
HaveServiceRoom config h longest late starts start counts makes signals =
    SomeHasRoom config h longest starts start false 0 late makes signals × SomeHasRoom config h longest starts start false counts 0 makes signals

abbrev pub none : ℕ → ℕ
none j = 0

-- boot activates the tasks that start with the system
abbrev pub autostarted : Config → (j : ℕ) → ℕ
autostarted config j = cond (declaration config j).autostart 1 0

-- ---- sections

-- no section of task b sums up to more; or the load says so of its rounds, in one of which each section lies
abbrev pub SectionsTake : Config → App → (weights : List BodyWeights) → (load : List Entry) → (cuts : ℕ → Bool) → (h b most : ℕ) → Type 0
SectionsTake config app weights load cuts h b most =
    SectionsSum config app h b weights most ⊎ (WorksWithin load b most × WaitsNowhere config app h b (cuts b))

-- Rounds come to no more: one of either kind that is under way, a first one or one behind a WaitEvent, and so many behind WaitEvents.
pub record RoundsTake (First Later : ℕ → Type 0) (laters most : ℕ) : Type 0 where
  pub under_way : ℕ
  pub later : ℕ
  pub firsts : First under_way
  pub laters_fit : Later later
  pub longer : later ≤ under_way
  pub all : under_way + laters * later ≤ most

-- by walks
abbrev pub RoundsSum : App → (b : ℕ) → (weights : List BodyWeights) → (laters most : ℕ) → Type 0
RoundsSum app b weights laters most = RoundsTake (FirstRoundsSum app true b weights) (LaterRoundsSum app true b weights) laters most

-- Task b joins: WaitEvents cut its turns into rounds, and behind WaitEvents the start has enough of them for its settings, by others and by itself, and for one in front of the period.
pub record Joins (app : App) (cuts : ℕ → Bool) (b : ℕ) (s : Start) : Type 0 where
  pub joins : s.joins ≡ Some b
  pub cut : cuts b ≡ true
  pub own_sets : ℕ
  pub sets : RoundsSum app b (setting_weights app b) (s.nexts b) own_sets
  pub number : s.settings + own_sets + 1 ≤ s.nexts b

-- the counts of its rounds, by what the load says of the task, or by walks of its code
abbrev pub RoundsCount : App → (weights : List BodyWeights) → (load : List Entry) → (b laters most : ℕ) → Type 0
RoundsCount app weights load b laters most =
    RoundsTake (λ n. WorksWithin load b n ⊎ FirstRoundsSum app true b weights n) (λ n. WorksWithin load b n ⊎ LaterRoundsSum app true b weights n) laters most

-- A start has the sections of the lower task b, or its rounds where it joins, an item that it or another one has begun behind them, and the GetResource that raises it, if it is preemptable and not raised yet. One that is not is
-- raised in front of the period, or with its first event.
pub record HasSections (config : Config) (app : App) (longest : ℕ) (weights : List BodyWeights) (load : List Entry) (cuts : ℕ → Bool) (h b : ℕ) (raised : Bool) (s : Start) : Type 0 where
  pub counts : ℕ
  pub raising : ℕ
  pub sum : SectionsTake config app weights load cuts h b counts ⊎ (Joins app cuts b s × RoundsCount app weights load b (s.nexts b) counts)
  pub takes : raised ≡ false → (declaration config b).non ≡ false → (at : Position) → Reaches app b at → calls service.GetResource (operation_at app at) ≡ true → going_at weights at ≤ raising
  pub front : raising + counts + longest ≤ s.inflow.front
  -- what they make, by walks; or once, where the task cannot be entered meanwhile
  pub acts : (j : ℕ) → is_over config h j ≡ true
      → (SectionsSum config app h b (activation_weights app b j) (s.inflow.acts j) ⊎ (IsShutOut config h b j × (1 ≤ s.inflow.acts j)))
      ⊎ (Joins app cuts b s × RoundsSum app b (activation_weights app b j) (s.nexts b) (s.inflow.acts j))
  pub sets : (j : ℕ) → is_over config h j ≡ true
      → SectionsSum config app h b (setting_weights app j) (s.inflow.sets j) ⊎ (Joins app cuts b s × RoundsSum app b (setting_weights app j) (s.nexts b) (s.inflow.sets j))

-- ---- all of them

abbrev pub is_call : Op → Bool
is_call (op.Serve call) = true
is_call _ = false

-- For each way in which a lower task that comes, by its code, may come into a busy period of h there is a start. But for services and sections they come with its
-- first event, in front of all its counts.
pub record FitsStarts (config : Config) (app : App) (longest late : ℕ) (weights : List BodyWeights) (load : List Entry) (cuts comes : ℕ → Bool) (h : ℕ) (once : Bool) (starts : ℕ) (start : ℕ → Start) : Type 0 where
  pub some : (i : ℕ) × (i < starts) × ((start i).is_boot ≡ false) × (longest ≤ (start i).inflow.front) × (late ≤ (start i).lead)
  pub boots : SomeHasRoom config h longest starts start true 0 late (autostarted config) none
  -- a service, with which the task may leave
  pub serves : (t : ℕ) → IsLower config h t → comes t ≡ true → (at : Position) → Reaches app t at → is_call (operation_at app at) ≡ true
      → HaveServiceRoom config h longest late starts start (ending_at weights at) (λ j. ending_at (activation_weights app t j) at) (λ j. ending_at (setting_weights app j) at)
  pub sections : (b : ℕ) → IsLower config h b → comes b ≡ true → (raised : Bool)
      → (i : ℕ) × (i < starts) × ((start i).is_boot ≡ false) × (cond raised late 0 ≤ (start i).lead) × HasSections config app longest weights load cuts h b raised (start i)
  -- where h is entered once: a service with which it may leave
  pub leaves : once ≡ true → (at : Position) → Reaches app h at → is_call (operation_at app at) ≡ true
      → HaveServiceRoom config h longest late starts start (ending_at weights at) (λ j. ending_at (activation_weights app h j) at) (λ j. ending_at (setting_weights app j) at)

-- In every run of well-formed task code that keeps the pace, and in which no task spends more on an item than that has, what lower tasks bring into busy
-- periods is within starts that the task code fits, where its rounds keep the `work` lines of a load.
abbrev pub CodeFitsStarts : Type 0
CodeFitsStarts = (config : Config) (app : App) (size : ItemSizes) (longest late n : ℕ) (weights : List BodyWeights) (load : List Entry) (cuts comes : ℕ → Bool) (arrivals : List Arrival) (events : List Stamped) (h : ℕ) (once : Bool) (starts : ℕ) (start : ℕ → Start)
    → WellFormed config app → OsekRun config app events → InTime config n arrivals events → AreAtMost size longest
    → ((t : ℕ) → t < length config.tasks → SpendsOnItems config app size longest t events) → AllByRecursion (IsWithinWeights config app size longest) (run_stages config app events)
    → WeighsItems app size weights → WeighsEndings app size weights → AllByRecursion (λ x. OthersSleep comes x.found) (run_stages config app events) → KeepsWork config load cuts (run_stages config app events)
    → FitsStarts config app longest late weights load cuts comes h once starts start
    → HaveStarts config h longest late once starts start (run_stages config app events)
