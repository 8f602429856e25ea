-- The rounds of a task in a run, what is charged to them, and what their items weigh.
use Rattle.std.specs.Prelude.{ℕ, ◌+◌, ◌<◌, ◌≤◌, ◌≡◌, ◌==◌, ◌&&◌, ◌||◌, List, [], ◌∷◌, ◌++◌, Bool, true, false, cond, length}
use Rattle.sloth_base.specs.Named.{function, operation}
use Rattle.sloth_base.specs.ServiceCodes.{is_service}
use Rattle.sloth_base.specs.declared.config.Config.{Config}
use Rattle.sloth_base.specs.declared.app.App.{App}
use Rattle.sloth_base.specs.declared.service.Event.{Event}
use Rattle.sloth_base.specs.declared.service.Event.TheVariants as event
use Rattle.sloth_base.specs.declared.service.Stamped.{Stamped}
use Rattle.sloth_base.specs.declared.service.Service.TheVariants as service
use Rattle.code_rules.specs.WellFormed.{WellFormed}
use Rattle.osek_scheduler.specs.State.{Frame, System, task}
use Rattle.osek_scheduler.specs.Runs.{OsekRun}
use Rattle.bound_rules.specs.declared.bound.BodyWeights.{BodyWeights}
use Rattle.bound_rules.specs.Weights.{going_weight, ending_weight}
use Rattle.sim_induction.specs.Items.{ending_counts}
use Rattle.sim_induction.specs.Pace.{ItemSizes}
use Rattle.sim_induction.specs.Paced.{KeepsPace}
use Rattle.run_counts.specs.Stages.{Stage, charged, is_turn, is_entry, run_stages}
use Rattle.run_counts.specs.Spending.{WeighsItems}

-- ---- rounds

-- task t goes on behind a WaitEvent in whose mask an event is set: it did not leave (OSEK OS 2.2.3, section 13.5.3.4)
abbrev pub goes_on_waiting : (t : ℕ) → Event → Bool
goes_on_waiting t (event.Call u served status) = (u == t) && is_service served service.WaitEvent
goes_on_waiting t _ = false

-- task t leaves with the event: it ends, or it waits
abbrev pub is_left : (t : ℕ) → Event → Bool
is_left t (event.Left u served) = u == t
is_left t _ = false

-- A round of task t begins behind the event. WaitEvents that go on cut a turn into rounds where that is asked for; else a round is a whole turn.
abbrev pub opens_round : (cuts : Bool) → (t : ℕ) → Event → Bool
opens_round cuts t e = is_entry t e || (cuts && goes_on_waiting t e)

-- a round of task t ends with the event
abbrev pub closes_round : (cuts : Bool) → (t : ℕ) → Event → Bool
closes_round cuts t e = is_left t e || (cuts && goes_on_waiting t e)

-- the stages up to the first that ends a round of task t, this included, or all where none does
abbrev pub round_of : (cuts : Bool) → (t : ℕ) → List Stage → List Stage
round_of cuts t [] = []
round_of cuts t (x ∷ xs) = x ∷ cond (closes_round cuts t x.stamped.event) [] (round_of cuts t xs)

-- ---- sums over stages

-- the sum of a number for each stage
abbrev pub total : (Stage → ℕ) → List Stage → ℕ
total f [] = 0
total f (x ∷ xs) = f x + total f xs

-- What the events of task t are charged with: the counts of each, with those behind the event before it, whichever task's that is. What a task does
-- of an item before it is preempted is not among them: it stands in front of the entry, or of the tick.
abbrev pub charged_to : (t : ℕ) → Stage → ℕ
charged_to t x = cond (is_turn t x.stamped.event) (charged x) 0

-- the weight of the item at which the innermost function stands, where the task goes on behind it
abbrev pub next_going : (weights : List BodyWeights) → List Frame → ℕ
next_going weights [] = 0
next_going weights (frame ∷ outer) = going_weight weights frame.func frame.item

-- where the task may leave with it
abbrev pub next_ending : (weights : List BodyWeights) → List Frame → ℕ
next_ending weights [] = 0
next_ending weights (frame ∷ outer) = ending_weight weights frame.func frame.item

-- The weight of the item that an event executes, by the state that it finds. The way back from Schedule executes none: the item of its call weighs it.
abbrev pub executed_weight : (weights : List BodyWeights) → (found : System) → Event → ℕ
executed_weight weights found (event.Run t func item result) = next_going weights (task found t).frames
executed_weight weights found (event.Call t served status) = next_going weights (task found t).frames
executed_weight weights found (event.Left t served) = next_ending weights (task found t).frames
executed_weight weights found _ = 0

-- of the events of task t
abbrev pub weight_of : (weights : List BodyWeights) → (t : ℕ) → Stage → ℕ
weight_of weights t x = cond (is_turn t x.stamped.event) (executed_weight weights x.found x.stamped.event) 0

-- ---- the law

-- where a task may leave with it, an item weighs at least its instructions and what its service takes then; ChainTask the longer of its ways
pub record WeighsEndings (app : App) (size : ItemSizes) (weights : List BodyWeights) : Type 0 where
  pub item : (f i : ℕ) → i < length (function app f).items
      → size f i + ending_counts (function app f) (operation app f i) ≤ ending_weight weights f i

-- In every run that keeps the pace, what is charged to the events of a round, finished or not, is at most the sum of the weights of the items that they
-- execute.
abbrev pub RoundsSpendWithinItems : Type 0
RoundsSpendWithinItems = (config : Config) (app : App) (size : ItemSizes) (longest n t : ℕ) (cuts : Bool) (weights : List BodyWeights) (events : List Stamped)
    → WellFormed config app → OsekRun config app events → KeepsPace config app size longest n events
    → WeighsItems app size weights → WeighsEndings app size weights
    → (before behind : List Stage) (first : Stage) → run_stages config app events ≡ before ++ first ∷ behind
    → opens_round cuts t first.stamped.event ≡ true
    → total (charged_to t) (round_of cuts t behind) ≤ total (weight_of weights t) (round_of cuts t behind)
