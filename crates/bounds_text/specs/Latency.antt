-- The last lines of the command `bounds OIL SRC latency`.
use Rattle.std.specs.Prelude.{ℕ, zero, suc, ◌+◌, ◌<◌, ◌≤◌, ◌≡◌, max, cond, Bool, false, List, [], ◌∷◌, ◌++◌, codes, decimal, length, get_or, true, Option, Some, None}
use Rattle.std.specs.List.{AllByRecursion}
use Rattle.sloth_base.specs.declared.config.Config.{Config}
use Rattle.sloth_base.specs.declared.app.App.{App}
use Rattle.sloth_base.specs.declared.service.Arrival.{Arrival}
use Rattle.sloth_base.specs.declared.service.Event.TheVariants as event
use Rattle.sloth_base.specs.declared.service.Stamped.{Stamped}
use Rattle.sloth_base.specs.declared.image.Image.{Image}
use Rattle.sloth_base.specs.Named.{declaration, counter_declaration}
use Rattle.sloth_base.specs.Owners.{owners_in}
use Rattle.call_graph.specs.Reached.{any_below}
use Rattle.call_graph.specs.Tables.{max_below}
use Rattle.code_lengths.specs.LongestPaths.{tick_path}
use Rattle.sloth_source.specs.Texts.{AreAccepted}
use Rattle.osek_scheduler.specs.State.{System, opening}
use Rattle.osek_scheduler.specs.InTime.{is_admit}
use Rattle.osek_scheduler.specs.Runs.{AreStepsTo}
use Rattle.osek_blocking.specs.Blocking.{events_up_to_entry, MakesReady}
use Rattle.bound_rules.specs.declared.bound.Bound.{Bound}
use Rattle.bound_rules.specs.declared.bound.BodyWeights.{BodyWeights}
use Rattle.bound_rules.specs.Tasks.{task_at}
use Rattle.bound_rules.specs.Weights.{no_weights}
use Rattle.sim_induction.specs.Events.{enter_counts}
use Rattle.sim_induction.specs.Items.{AreLengths}
use Rattle.walk_sums.specs.declared.sections.Sum.{Sum}
use Rattle.walk_sums.specs.declared.sections.Sum.TheVariants as sum
use Rattle.run_counts.specs.Counts.{AreCountsBy}
use Rattle.walk_sums.specs.Sections.{AreAllSums}
use Rattle.sim_induction.specs.Paced.{InPace}
use Rattle.sim_induction.specs.Sound.{AreComing, Sound, events_of}
use Rattle.sim_induction.specs.Weighed.{Weighed}
use Rattle.run_counts.specs.EntryLatency.{IsHighest, EntersBefore}
use Rattle.run_counts.specs.Latency.{tick_weights, weighed_latency, IsBehindBoot}
use Rattle.bounds_text.specs.Bounds.{AreToldBounds, is_below}
use Rattle.bounds_text.specs.Stretches.{running_counts}
use Rattle.bounds_text.specs.declared.latency.Parts.{Parts}
use Rattle.bounds_text.specs.BoundsText.{bound_lines}
use Rattle.bounds_text.specs.KeptRuns.{RunsKeepAll}
use Rattle.bounds_text.specs.LowerCounts.{heaviest_item, heaviest, lower_counts}

-- this is the task of highest priority, if there is a task
abbrev pub IsHighestTask : Config → Option ℕ → Type 0
IsHighestTask config None = length config.tasks ≡ 0
IsHighestTask config (Some h) = (h < length config.tasks) × IsHighest config h

-- ---- counts

-- the heaviest item of all bodies with which its task may leave
abbrev pub heaviest_ending : (weights : List BodyWeights) → ℕ
heaviest_ending weights = max_below (length weights) (λ f. heaviest_item (get_or weights f no_weights).ending)

-- the instructions of the longest item
abbrev pub longest_item : (lengths : List (List ℕ)) → ℕ
longest_item lengths = max_below (length lengths) (λ f. heaviest_item (get_or lengths f []))

-- What lower tasks take in front of an entry: nothing where there are none; else what is told of them, or an item with which one leaves.
abbrev pub taken_counts : (some : Bool) → (leaving counts : ℕ) → ℕ
taken_counts some leaving counts = cond some (max counts leaving) 0

-- the parts of the latency of task h: the most counts of a stretch behind boot, of an item with which a task leaves, the longest item, the task's entry, and
-- whether some task is lower
abbrev pub latency_parts : Config → App → (lengths : List (List ℕ)) → (weights : List BodyWeights) → (h : ℕ) → Parts
latency_parts config app lengths weights h = record {
  running = running_counts config app (heaviest_ending weights);
  leaving = heaviest_ending weights;
  longest = longest_item lengths;
  entry = enter_counts config app false h;
  some = any_below (length config.tasks) (is_below config.tasks (task_at config.tasks h).priority);
}

-- the latency with so many counts of lower tasks, for an arrival behind boot, ticks left out
abbrev pub latency_counts : Parts → (counts : ℕ) → ℕ
latency_counts parts counts = weighed_latency parts.running (taken_counts parts.some parts.leaving counts) parts.longest parts.entry

-- ---- lines

-- the line of a counter: what a tick of it takes at most, whose alarms all expire at once
unfoldable pub tick_line : Config → (c : ℕ) → List ℕ
tick_line config c = (((codes "tick " ++ (counter_declaration config c).name) ++ codes " ") ++ decimal (tick_path config c)) ++ codes "\n"

-- the lines of the first counters, so many of them
unfoldable pub tick_lines : Config → ℕ → List ℕ
tick_lines config zero = []
tick_lines config (suc k) = tick_lines config k ++ tick_line config k

-- the latency by what is told of lower tasks
abbrev pub latency_text : Parts → Sum → List ℕ
latency_text parts (sum.Counts n) = codes " " ++ decimal (latency_counts parts n)
latency_text parts sum.Huge = codes " huge"
latency_text parts sum.Endless = codes " endless"

-- the line of the latency of a task
unfoldable pub latency_line : Config → Parts → Sum → (h : ℕ) → List ℕ
latency_line config parts told h = (((declaration config h).name ++ codes " latency") ++ latency_text parts told) ++ codes "\n"

-- what is told of the tasks lower than h
abbrev pub lower_sum : Config → (weights : List BodyWeights) → (table : List (List Sum)) → (h : ℕ) → Sum
lower_sum config weights table h = lower_counts config.tasks (heaviest weights) (get_or table h []) h

-- that of the task of highest priority, if there is a task
abbrev pub last_line : Config → App → (lengths : List (List ℕ)) → (weights : List BodyWeights) → (table : List (List Sum)) → Option ℕ → List ℕ
last_line config app lengths weights table None = []
last_line config app lengths weights table (Some h) = latency_line config (latency_parts config app lengths weights h) (lower_sum config weights table h) h

-- these are the lines of these bounds, those of the ticks of all counters, and then that of the latency of the task of highest priority
pub record AreAllLines (config : Config) (app : App) (bounds : List Bound) (lengths : List (List ℕ)) (weights : List BodyWeights) (table : List (List Sum)) (text : List ℕ) : Type 0 where
  pub highest : Option ℕ
  pub is_highest : IsHighestTask config highest
  pub lines : text ≡ (bound_lines config.tasks bounds (length config.tasks) ++ tick_lines config (length config.counters)) ++ last_line config app lengths weights table highest

-- ---- what they promise of runs

-- From the moment of an arrival behind boot that makes task h Ready its entry ends within so many counts, those of the ticks on the way and for each of
-- these the longest item, if n instructions are that many and those of one stretch more.
abbrev pub EntersWithin : Config → App → (h latency : ℕ) → Parts → (n : ℕ) → List Stamped → Type 0
EntersWithin config app h latency parts n events =
    (before behind : List Stamped) (made : Stamped) (found s : System) → events ≡ before ++ made ∷ behind
    → AreStepsTo config app before (opening config app) found → MakesReady config app h made.event found s → is_admit made ≡ true → IsBehindBoot made.stamp.at before
    → made.stamp.at + (latency + tick_weights config parts.longest (events_up_to_entry h behind)) + parts.running ≤ n
    → EntersBefore h (made.stamp.at + (latency + tick_weights config parts.longest (events_up_to_entry h behind))) behind

-- In every run of an image whose builder promises that its runs are sound, keep the pace and the weights, the task of highest priority, if it is one of
-- whose lower tasks a number is told, is entered within its latency.
abbrev pub RunsKeepLatency : Config → App → (lengths : List (List ℕ)) → (weights : List BodyWeights) → (table : List (List Sum)) → Option ℕ → Type 0
RunsKeepLatency config app lengths weights table None = Unit {0}
RunsKeepLatency config app lengths weights table (Some h) =
    (image : Image) (arrivals : List Arrival) (n : ℕ) → Sound config app image → InPace config app image → Weighed config app image → AreComing (owners_in config) arrivals
    → (counts : ℕ) → lower_sum config weights table h ≡ sum.Counts counts
    → EntersWithin config app h (latency_counts (latency_parts config app lengths weights h) counts) (latency_parts config app lengths weights h) n (events_of image arrivals n)

-- no tick takes more counts than its line tells
abbrev pub IsShortTick : Config → Stamped → Type 0
IsShortTick config e = (c : ℕ) → e.event ≡ event.Tick c → e.stamp.at < e.stamp.from + tick_path config c

-- in every run of an image whose builder promises that its runs are sound and keep the weights
abbrev pub RunsKeepTicks : Config → App → Type 0
RunsKeepTicks config app =
    (image : Image) (arrivals : List Arrival) (n : ℕ) → Sound config app image → Weighed config app image → AreComing (owners_in config) arrivals
    → AllByRecursion (IsShortTick config) (events_of image arrivals n)

-- ---- the texts

-- These are the lines of the bounds of all tasks, then those of the ticks of all counters, and then that of the latency of the task of highest priority, and
-- runs keep them.
pub record HasLatency (config : Config) (app : App) (text : List ℕ) : Type 0 where
  pub bounds : List Bound
  pub are_bounds : AreToldBounds config app bounds
  pub lengths : List (List ℕ)
  pub are_lengths : AreLengths app lengths
  pub weights : List BodyWeights
  pub are_counts : AreCountsBy app lengths weights
  pub table : List (List Sum)
  pub are_sums : AreAllSums config app weights table
  pub highest : Option ℕ
  pub is_highest : IsHighestTask config highest
  pub lines : text ≡ (bound_lines config.tasks bounds (length config.tasks) ++ tick_lines config (length config.counters)) ++ last_line config app lengths weights table highest
  pub kept : RunsKeepAll config app bounds
  pub ticks : RunsKeepTicks config app
  pub in_time : RunsKeepLatency config app lengths weights table highest

-- the texts are accepted, and these are the lines of what they mean
pub record IsLatencyText (oil src text : List ℕ) : Type 0 where
  pub config : Config
  pub app : App
  pub accepted : AreAccepted oil src config app
  pub has_latency : HasLatency config app text

-- texts have one such list of lines at most
abbrev pub OneLatencyText : Type 0
OneLatencyText = (oil src one other : List ℕ) → IsLatencyText oil src one → IsLatencyText oil src other → one ≡ other
