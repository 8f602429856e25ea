-- What the own counts of a task come to: by what its events are charged with, by where it is preempted, and by the weights of a round's items.
use Rattle.std.specs.Prelude.{ℕ, ◌+◌, ◌<◌, ◌≤◌, ◌≡◌, ◌⊎◌, ◌&&◌, List, [], ◌∷◌, ◌++◌, Bool, true, cond, length, is_none}
use Rattle.std.specs.List.{AllByRecursion}
use Rattle.sloth_base.specs.declared.config.Config.{Config}
use Rattle.sloth_base.specs.declared.app.App.{App}
use Rattle.sloth_base.specs.declared.service.Arrival.{Arrival}
use Rattle.sloth_base.specs.declared.service.Stamped.{Stamped}
use Rattle.sloth_base.specs.declared.image.Image.{Image}
use Rattle.sloth_base.specs.Owners.{owners_in}
use Rattle.code_rules.specs.AppRange.{IsTaskCode}
use Rattle.code_rules.specs.WellFormed.{WellFormed}
use Rattle.osek_scheduler.specs.State.{task}
use Rattle.osek_scheduler.specs.InTime.{InTime}
use Rattle.osek_scheduler.specs.Runs.{OsekRun}
use Rattle.osek_blocking.specs.Pace.{takes_line}
use Rattle.bound_rules.specs.declared.bound.BodyWeights.{BodyWeights}
use Rattle.sim_induction.specs.Items.{length_of, AreLengths}
use Rattle.sim_induction.specs.Pace.{ItemSizes, next_size_of, paced_counts}
use Rattle.run_counts.specs.Counts.{AreCountsBy}
use Rattle.sim_induction.specs.Paced.{KeepsPace, InPace}
use Rattle.sim_induction.specs.Spent.{SpendsOnItems}
use Rattle.sim_induction.specs.Sound.{AreComing, Sound, events_of}
use Rattle.run_counts.specs.Stages.{Stage, turn_task, is_running, is_turn, unseen, spanned, charged, own, run_stages}
use Rattle.run_counts.specs.Spending.{WeighsItems}
use Rattle.run_counts.specs.Rounds.{opens_round, round_of, total, charged_to, weight_of, WeighsEndings}

-- ---- preemptions

-- the event is an entry or a tick, and takes the processor from task t
abbrev pub is_preempted : Config → (t : ℕ) → Stage → Bool
is_preempted config t x = takes_line x.stamped.event && is_running config x.found t

-- a number of each stage in which task t is preempted
abbrev pub if_preempted : Config → (t : ℕ) → (Stage → ℕ) → Stage → ℕ
if_preempted config t f x = cond (is_preempted config t x) (f x) 0

-- ---- what own counts are

-- A task's own counts are those that its events are charged with, and in front of an entry or a tick that preempts it those of the item that it
-- has begun.
abbrev pub IsOwn : Config → (t : ℕ) → Stage → Type 0
IsOwn config t x = own config t x ≡ charged_to t x + if_preempted config t unseen x

-- in each stage of a run
abbrev pub RunsOwnWhatIsCharged : Type 0
RunsOwnWhatIsCharged = (config : Config) (app : App) (n t : ℕ) (arrivals : List Arrival) (events : List Stamped)
    → WellFormed config app → OsekRun config app events → InTime config n arrivals events
    → AllByRecursion (IsOwn config t) (run_stages config app events)

-- ---- whose each count is

-- the counts of an event that is no task's: of an entry or a tick those that it spans, of boot and of the idle loop those in front of it too
abbrev pub unowned : Stage → ℕ
unowned x = cond (takes_line x.stamped.event) (spanned x) (cond (is_none (turn_task x.stamped.event)) (charged x) 0)

-- a stage has no counts but those, or these and own counts of one task
abbrev pub IsShared : Config → Stage → Type 0
IsShared config x = (charged x ≤ unowned x) ⊎ ((t : ℕ) × (t < length config.tasks) × (charged x ≤ unowned x + own config t x))

-- so it is in each stage of a run in time that keeps the pace
abbrev pub RunsShareCounts : Type 0
RunsShareCounts = (config : Config) (app : App) (size : ItemSizes) (longest n : ℕ) (arrivals : List Arrival) (events : List Stamped)
    → WellFormed config app → OsekRun config app events → InTime config n arrivals events → KeepsPace config app size longest n events
    → AllByRecursion (IsShared config) (run_stages config app events)

-- ---- in front of an entry or a tick

-- no more counts that show no event
abbrev pub IsGapWithin : (gap : ℕ) → Stage → Type 0
IsGapWithin gap x = takes_line x.stamped.event ≡ true → unseen x ≤ gap

-- in every run that keeps the pace there are no more than the longest item has instructions
abbrev pub RunsHaveShortGaps : Type 0
RunsHaveShortGaps = (config : Config) (app : App) (size : ItemSizes) (longest n : ℕ) (events : List Stamped)
    → OsekRun config app events → KeepsPace config app size longest n events
    → AllByRecursion (IsGapWithin longest) (run_stages config app events)

-- the instructions of the item at which task t stands; none where it owes the way back
abbrev pub begun : ItemSizes → (t : ℕ) → Stage → ℕ
begun size t x = next_size_of size (task x.found t)

-- where it preempts task t, no more than that item has instructions
abbrev pub IsBehindItem : Config → ItemSizes → (t : ℕ) → Stage → Type 0
IsBehindItem config size t x = is_preempted config t x ≡ true → unseen x ≤ begun size t x

-- in every run that keeps the pace
abbrev pub RunsPreemptWithinItems : Type 0
RunsPreemptWithinItems = (config : Config) (app : App) (size : ItemSizes) (longest n t : ℕ) (events : List Stamped)
    → OsekRun config app events → KeepsPace config app size longest n events
    → AllByRecursion (IsBehindItem config size t) (run_stages config app events)

-- ---- those of a round of a run

-- what an event may take at most, with the item in front of it
abbrev pub paced_at : Config → App → ItemSizes → (longest : ℕ) → Stage → ℕ
paced_at config app size longest x = paced_counts config app size longest x.found x.stamped.event

-- What the own counts of task t in a round of it come to. The items are those that its events execute.
pub record OwnIsWithin (config : Config) (app : App) (size : ItemSizes) (longest : ℕ) (weights : List BodyWeights) (t : ℕ) (round : List Stage) : Type 0 where
  -- with the entries and ticks that preempt it: the weights of the items, and of each entry and tick its own, with the longest item
  pub with_entries : total (own config t) round + total (if_preempted config t spanned) round
      ≤ total (weight_of weights t) round + total (if_preempted config t (paced_at config app size longest)) round
  -- alone: the weights of the items, and for each entry and tick that preempts it the instructions of the item that it has begun
  pub alone : total (own config t) round ≤ total (weight_of weights t) round + total (if_preempted config t (begun size t)) round

-- In every run in time that keeps the pace the own counts of a task in a round, finished or not, are so.
abbrev pub RoundsOwnWithinItems : Type 0
RoundsOwnWithinItems =
    (config : Config) (app : App) (size : ItemSizes) (longest n t : ℕ) (cuts : Bool) (weights : List BodyWeights) (arrivals : List Arrival) (events : List Stamped)
    → WellFormed config app → OsekRun config app events → InTime config n arrivals events → KeepsPace config app size longest n events
    → WeighsItems app size weights → WeighsEndings app size weights
    → (before behind : List Stage) (first : Stage) → run_stages config app events ≡ before ++ first ∷ behind
    → opens_round cuts t first.stamped.event ≡ true
    → OwnIsWithin config app size longest weights t (round_of cuts t behind)

-- ---- with the items that are preempted counted once

-- The instructions of the item that task t has begun and not ended behind these stages, as where it is preempted last; none where an event of it came
-- since. In front of them these were so many.
abbrev pub left_begun : Config → ItemSizes → (t : ℕ) → (so_far : ℕ) → List Stage → ℕ
left_begun config size t so_far [] = so_far
left_begun config size t so_far (x ∷ xs) =
    left_begun config size t (cond (is_turn t x.stamped.event) 0 (cond (is_preempted config t x) (begun size t x) so_far)) xs

-- In every run in time that keeps the pace, and in which no task spends more on an item than it has, the own counts of a task in a round are at most the
-- weights of its items; in one that is not finished, with the item that it has begun.
abbrev pub RoundsOwnItems : Type 0
RoundsOwnItems =
    (config : Config) (app : App) (size : ItemSizes) (longest n t : ℕ) (cuts : Bool) (weights : List BodyWeights) (arrivals : List Arrival) (events : List Stamped)
    → WellFormed config app → OsekRun config app events → InTime config n arrivals events → SpendsOnItems config app size longest t events
    → WeighsItems app size weights → WeighsEndings app size weights
    → (before behind : List Stage) (first : Stage) → run_stages config app events ≡ before ++ first ∷ behind
    → opens_round cuts t first.stamped.event ≡ true
    → total (own config t) (round_of cuts t behind)
    ≤ total (weight_of weights t) (round_of cuts t behind) + left_begun config size t 0 (round_of cuts t behind)

-- ---- of the runs of an image

-- Of an image whose builder promises `Sound` and `InPace`, in every run, by the weights in counts and the lengths of the items of its task code: the own
-- counts of a task in a round, finished or not, are at most the sum of the weights of the items that its events execute, and in one that is not finished
-- the instructions of the item that it has begun. So an item that is preempted, however often, counts once.
abbrev pub ImagesOwnWithinItems : Type 0
ImagesOwnWithinItems =
    (config : Config) (app : App) (image : Image) (lengths : List (List ℕ)) (weights : List BodyWeights) (arrivals : List Arrival) (n t : ℕ) (cuts : Bool)
    → WellFormed config app → IsTaskCode app → Sound config app image → InPace config app image → AreLengths app lengths → AreCountsBy app lengths weights
    → AreComing (owners_in config) arrivals
    → (before behind : List Stage) (first : Stage) → run_stages config app (events_of image arrivals n) ≡ before ++ first ∷ behind
    → opens_round cuts t first.stamped.event ≡ true
    → total (own config t) (round_of cuts t behind)
    ≤ total (weight_of weights t) (round_of cuts t behind) + left_begun config (length_of lengths) t 0 (round_of cuts t behind)
