-- Response times of the runs of an image.
use Rattle.std.specs.Prelude.{ℕ, ◌+◌, ◌<◌, ◌≤◌, ◌≡◌, ◌⊎◌, List, Bool, true, false, length, Some}
use Rattle.sloth_base.specs.declared.config.Config.{Config}
use Rattle.sloth_base.specs.declared.app.App.{App}
use Rattle.sloth_base.specs.declared.service.Arrival.{Arrival}
use Rattle.sloth_base.specs.declared.image.Image.{Image}
use Rattle.sloth_base.specs.Owners.{owners_in}
use Rattle.code_rules.specs.AppRange.{IsTaskCode}
use Rattle.code_rules.specs.WellFormed.{WellFormed}
use Rattle.load_text.specs.declared.load_line.Entry.{Entry}
use Rattle.load_text.specs.Loads.{KeepDistances, work}
use Rattle.bound_rules.specs.declared.bound.BodyWeights.{BodyWeights}
use Rattle.code_lengths.specs.LongestPaths.{tick_path, boot_path}
use Rattle.sim_induction.specs.Events.{enter_counts}
use Rattle.sim_induction.specs.Items.{length_of, AreLengths}
use Rattle.sim_induction.specs.Pace.{AreAtMost}
use Rattle.run_counts.specs.Counts.{AreCounts}
use Rattle.sim_induction.specs.Paced.{AreStretchesWithin, InPace}
use Rattle.sim_induction.specs.Sound.{AreComing, Sound, events_of}
use Rattle.sim_induction.specs.Weighed.{Weighed}
use Rattle.run_counts.specs.Stages.{own, run_stages}
use Rattle.response_laws.specs.Sums.{is_over}
use Rattle.walk_sums.specs.Rounds.{IsClean}
use Rattle.response_laws.specs.Walked.{FirstRoundsSum, LaterRoundsSum}
use Rattle.response_laws.specs.Demand.{Costs, Start, IsEnough}
use Rattle.response_laws.specs.Bounded.{IsOfLevel}
use Rattle.response_laws.specs.Makers.{activation_weights, setting_weights}
use Rattle.response_laws.specs.Once.{StaysOut}
use Rattle.response_laws.specs.Never.{AreClosed}
use Rattle.response_laws.specs.Arrivals.{HasDistances}
use Rattle.response_laws.specs.Starts.{HaveStarts}
pub use Rattle.response_laws.specs.Works.{KeepsWork, WorksWithin}
use Rattle.response_laws.specs.CodeStarts.{FitsStarts}
use Rattle.response_laws.specs.Expiries.{MarksAlarms, HasExpiries}
use Rattle.response_laws.specs.Loaded.{HasArrivals, IsStartFor}
use Rattle.response_laws.specs.Response.{EntersOnce, IsCounted, LastsWithin, RespondsWithin}
use Rattle.response_laws.specs.Ticking.{HasRoomForTicks, TicksWithin}

-- the most instructions of an item
abbrev pub item_instructions : ℕ
item_instructions = 36

-- no stretch that may come takes more counts
pub record NoStretchIsAbove (config : Config) (app : App) (late : ℕ) : Type 0 where
  pub stretches : AreStretchesWithin config app late
  pub boots : boot_path config ≤ late

-- ---- rounds

-- What the costs say of the code of tasks that come. The pieces of items in front of entries and ticks are their tasks' own counts.
pub record FitsRounds (config : Config) (app : App) (weights : List BodyWeights) (load : List Entry) (comes : ℕ → Bool) (h : ℕ) (cuts : ℕ → Bool) (costs : Costs)
    : Type 0 where
  -- the counts of rounds without the entries: by what the load says of the task, or by walks of its code
  pub first_round : (t : ℕ) → ℕ
  pub next_round : (t : ℕ) → ℕ
  pub firsts : (t : ℕ) → t < length config.tasks → is_over config h t ≡ true → comes t ≡ true
      → WorksWithin load t (first_round t) ⊎ FirstRoundsSum app (cuts t) t weights (first_round t)
  pub nexts : (t : ℕ) → t < length config.tasks → is_over config h t ≡ true → comes t ≡ true
      → WorksWithin load t (next_round t) ⊎ LaterRoundsSum app (cuts t) t weights (next_round t)
  -- with them
  pub first : (t : ℕ) → comes t ≡ true → enter_counts config app false t + first_round t ≤ costs.first t
  pub next : (t : ℕ) → comes t ≡ true → enter_counts config app true t + next_round t ≤ costs.next t
  pub tick : (c : ℕ) → tick_path config c ≤ costs.tick c
  -- what rounds make of tasks of this level, by walks; or once, where the task cannot be entered meanwhile
  pub first_acts : (k j : ℕ) → IsOfLevel config h k → IsOfLevel config h j → comes k ≡ true
      → FirstRoundsSum app (cuts k) k (activation_weights app k j) (costs.first_acts k j) ⊎ (StaysOut config app k j × (1 ≤ costs.first_acts k j))
  pub next_acts : (k j : ℕ) → IsOfLevel config h k → IsOfLevel config h j → comes k ≡ true
      → LaterRoundsSum app (cuts k) k (activation_weights app k j) (costs.next_acts k j) ⊎ (StaysOut config app k j × (1 ≤ costs.next_acts k j))
  pub first_sets : (k j : ℕ) → IsOfLevel config h k → IsOfLevel config h j → comes k ≡ true
      → FirstRoundsSum app (cuts k) k (setting_weights app j) (costs.first_sets k j)
  pub next_sets : (k j : ℕ) → IsOfLevel config h k → IsOfLevel config h j → comes k ≡ true
      → LaterRoundsSum app (cuts k) k (setting_weights app j) (costs.next_sets k j)
  -- a task whose turns WaitEvents cut into rounds clears what it waits for
  pub clean : (t : ℕ) → t < length config.tasks → is_over config h t ≡ true → cuts t ≡ true → IsClean app t

-- ---- the law

-- Of an image whose builder promises that its runs are sound, weighed and in pace: in every run whose arrivals keep a load, and which keeps its `work`
-- lines, a task responds within the longest of the starts in which it has a round, and what stands in front of that, or of all but boot where it is made behind
-- boot; if the run has so many instructions, and an item and a stretch.
abbrev pub ImagesRespond : Type 0
ImagesRespond = (config : Config) (app : App) (image : Image) (weights : List BodyWeights) (load : List Entry) (comes : ℕ → Bool) (arrivals : List Arrival) (n late h r : ℕ)
    (cuts : ℕ → Bool) (costs : Costs) (once boot : Bool) (starts : ℕ) (start : ℕ → Start)
    → (once ≡ true → EntersOnce config h cuts) → WellFormed config app → IsTaskCode app → Sound config app image → Weighed config app image → InPace config app image → AreCounts app weights
    → AreComing (owners_in config) arrivals → NoStretchIsAbove config app late
    → HasDistances load → KeepDistances load arrivals → AreClosed config app load comes → KeepsWork config load cuts (run_stages config app (events_of image arrivals n))
    → FitsRounds config app weights load comes h cuts costs
    → HaveStarts config h item_instructions late once starts start (run_stages config app (events_of image arrivals n))
    → ((i : ℕ) → i < starts → IsStartFor config load late (item_instructions + late) h r cuts once boot costs (run_stages config app (events_of image arrivals n)) (start i))
    → RespondsWithin config app n (item_instructions + late) h r boot (events_of image arrivals n)

-- ---- by the task code alone

-- The costs are those of the settings of the lower task b by the code of tasks that come, and b clears what it waits for.
pub record FitsJoined (config : Config) (app : App) (comes : ℕ → Bool) (h : ℕ) (cuts : ℕ → Bool) (costs : Costs) (b : ℕ) : Type 0 where
  pub first_sets : (k : ℕ) → IsOfLevel config h k → comes k ≡ true → FirstRoundsSum app (cuts k) k (setting_weights app b) (costs.first_sets k b)
  pub next_sets : (k : ℕ) → IsOfLevel config h k → comes k ≡ true → LaterRoundsSum app (cuts k) k (setting_weights app b) (costs.next_sets k b)
  pub clean : IsClean app b

-- A start with the arrivals that fit into it, the expiries of alarms that fit into its ticks, and the settings of a task that joins; and with enough, and no longer than r with what stands in
-- front where task h has a round in it, if it counts.
pub record IsCodeStart (config : Config) (app : App) (comes is_set : ℕ → Bool) (load : List Entry) (late heaviest h r : ℕ) (cuts : ℕ → Bool) (once boot : Bool) (costs : Costs) (s : Start)
    : Type 0 where
  pub arrivals : HasArrivals load late heaviest s
  pub expiries : HasExpiries config is_set s
  pub joining : (b : ℕ) → s.joins ≡ Some b → FitsJoined config app comes h cuts costs b
  pub enough : IsCounted boot s → IsEnough config h once costs s
  pub lasts : IsCounted boot s → LastsWithin h r s

-- no item has more instructions
pub record IsLongestItem (app : App) (longest : ℕ) : Type 0 where
  pub some : 0 < longest
  pub none_longer : (lengths : List (List ℕ)) → AreLengths app lengths → AreAtMost (length_of lengths) longest

-- The same, where the starts hold what lower tasks bring in by their code: but for the `work` lines of the load, nothing is said of the run.
abbrev pub ImagesRespondByCode : Type 0
ImagesRespondByCode = (config : Config) (app : App) (image : Image) (weights : List BodyWeights) (load : List Entry) (comes : ℕ → Bool) (arrivals : List Arrival) (n late longest h r : ℕ)
    (cuts is_set : ℕ → Bool) (costs : Costs) (once boot : Bool) (starts : ℕ) (start : ℕ → Start)
    → (once ≡ true → EntersOnce config h cuts) → WellFormed config app → IsTaskCode app → Sound config app image → Weighed config app image → InPace config app image → AreCounts app weights
    → MarksAlarms app is_set → IsLongestItem app longest → AreComing (owners_in config) arrivals → NoStretchIsAbove config app late
    → HasDistances load → KeepDistances load arrivals → AreClosed config app load comes → KeepsWork config load cuts (run_stages config app (events_of image arrivals n))
    → FitsRounds config app weights load comes h cuts costs → FitsStarts config app longest late weights load cuts comes h once starts start
    → ((i : ℕ) → i < starts → IsCodeStart config app comes is_set load late (longest + late) h r cuts once boot costs (start i))
    → RespondsWithin config app n (longest + late) h r boot (events_of image arrivals n)

-- ---- ticks

-- In every run of such an image whose arrivals keep a load, a tick ends a stretch above counts that have room for ticks after the arrival of its counter; if the
-- run has so many instructions, and an item and a stretch.
abbrev pub ImagesTickInTime : Type 0
ImagesTickInTime = (config : Config) (app : App) (image : Image) (weights : List BodyWeights) (load : List Entry) (arrivals : List Arrival) (n late longest counts : ℕ)
    → WellFormed config app → Sound config app image → Weighed config app image → InPace config app image → AreCounts app weights → IsLongestItem app longest
    → AreComing (owners_in config) arrivals → NoStretchIsAbove config app late → HasDistances load → KeepDistances load arrivals
    → HasRoomForTicks config load longest late counts → TicksWithin n (longest + late) (counts + late) (events_of image arrivals n)
