-- How the record of costs that runs keep is put together.
use Rattle.std.specs.Prelude.{ℕ, ◌<◌, ◌≡◌, ◌&&◌, not, max, cond, Bool, true, false, List, length, get_or, Option, Some}
use Rattle.sloth_base.specs.declared.config.Config.{Config}
use Rattle.sloth_base.specs.declared.app.App.{App}
use Rattle.load_text.specs.declared.load_line.Entry.{Entry}
use Rattle.code_lengths.specs.LongestPaths.{boot_path}
use Rattle.sim_induction.specs.Items.{AreLengths}
use Rattle.osek_blocking.specs.Sections.{IsLower, IsSection}
use Rattle.bound_rules.specs.declared.bound.BodyWeights.{BodyWeights}
use Rattle.walk_sums.specs.declared.sections.Sum.{Sum}
use Rattle.walk_sums.specs.declared.sections.RoundSums.{RoundSums}
use Rattle.walk_sums.specs.declared.counted.Counted.{Counted}
use Rattle.walk_sums.specs.Counted.{counted_weights}
use Rattle.walk_sums.specs.Sections.{no_sum}
use Rattle.walk_sums.specs.Told.{IsToldSum}
use Rattle.bounds_text.specs.Stretches.{running_counts}
use Rattle.bounds_text.specs.Latency.{heaviest_ending, longest_item}
use Rattle.run_windows.specs.declared.costs.Makings.{Makings}
use Rattle.run_windows.specs.Settling.{TakeCounts}
use Rattle.run_costs.specs.Rounds.{made, many}
use Rattle.run_costs.specs.CostsOf.{IsSectionMade}
use Rattle.run_costs.specs.SectionSums.{is_lower, is_once, does}
use Rattle.run_counts.specs.Counts.{AreCounts}
use Rattle.run_costs.specs.RunCosts.{AreRunCosts}
use Rattle.run_windows.specs.declared.costs.RunCosts.{RunCosts}

-- ---- limits

-- the instructions of the longest item; 1 where there is none
abbrev pub longest_of : (lengths : List (List ℕ)) → ℕ
longest_of lengths = max (longest_item lengths) 1

-- the counts of the longest stretch, boot among them
abbrev pub late_of : Config → App → List BodyWeights → ℕ
late_of config app weights = max (running_counts config app (heaviest_ending weights)) (boot_path config)

-- the longest item of the task code has so many instructions
abbrev pub HasLongestItem : App → (longest : ℕ) → Type 0
HasLongestItem app longest = (lengths : List (List ℕ)) × AreLengths app lengths × (longest ≡ longest_of lengths)

-- the longest stretch that may come takes so many counts
abbrev pub HasLongestStretch : Config → App → (late : ℕ) → Type 0
HasLongestStretch config app late = (weights : List BodyWeights) × AreCounts app weights × (late ≡ late_of config app weights)

-- ---- makings

-- how often rounds make a task Ready
abbrev pub run_making : (once : Bool) → (activations settings : RoundSums) → Makings
run_making once a s = record {
  first_activations = made once a.first;
  first_settings = made false s.first;
  next_activations = made once a.later;
  next_settings = made false s.later;
}

-- ---- sections

-- sections of task k for h are asked how often they make j Ready, by their top
abbrev pub is_asked : Config → (h j k top : ℕ) → Bool
is_asked config h j k top = not (is_lower config h j) && (is_lower config h k && does config h k top)

-- the sums of those that are asked, of what counts
abbrev pub AreSummed : Config → App → Counted → (h j : ℕ) → (tops : List ℕ) → List Sum → Type 0
AreSummed config app c h j tops sums =
    (k : ℕ) → k < length config.tasks → is_asked config h j k (get_or tops k 0) ≡ true → IsToldSum (IsSection config app h k) (counted_weights c app) (get_or sums k no_sum)

-- one makes j Ready once at most, if it is by activations
abbrev pub is_limited : Config → (activates : Bool) → (h j k : ℕ) → Bool
is_limited config activates h j k = activates && is_once config h j k

-- never where they are not asked, and once where it is once at most
abbrev pub times : (asked once : Bool) → Sum → Option ℕ
times asked once s = cond asked (cond once (Some 1) (many s)) (Some 0)

-- how often sections of task k for h do what counts, of those that make j Ready
abbrev pub AreTimes : Config → App → (h j : ℕ) → (activates : Bool) → Counted → (k : ℕ) → Option ℕ → Type 0
AreTimes config app h j activates c k m =
    (IsLower config h k → ¬ (IsLower config h j) → IsSectionMade config app h k (is_limited config activates h j k) c m)
    × (¬ (IsLower config h k × ¬ (IsLower config h j)) → m ≡ Some 0)

-- ---- all

-- the costs of the task code under the load, its longest item and its longest stretch
pub record IsRunRecord (config : Config) (app : App) (load : List Entry) (r : RunCosts) : Type 0 where
  pub longest : HasLongestItem app r.longest
  pub late : HasLongestStretch config app r.late
  pub costs : AreRunCosts config app load r.costs
  pub take_counts : TakeCounts r.costs
  pub count : length r.costs.tasks ≡ length config.tasks
