-- What the parts of response times are.
use Rattle.std.specs.Prelude.{ℕ, ◌<◌, ◌≡◌, ◌≢◌, ◌⊎◌, ltb, Bool, true, false, List, [], length, get_or, Option, Some, None, Decides}
use Rattle.sloth_base.specs.declared.config.Config.{Config}
use Rattle.sloth_base.specs.declared.app.App.{App}
use Rattle.sloth_base.specs.declared.app.Func.{Func}
use Rattle.sloth_base.specs.Named.{function, item_of}
use Rattle.load_text.specs.declared.load_line.Entry.{Entry}
use Rattle.load_text.specs.Loads.{work}
use Rattle.code_lengths.specs.LongestPaths.{boot_path, tick_path}
use Rattle.sim_induction.specs.Events.{enter_counts}
use Rattle.sim_induction.specs.Items.{AreLengths}
use Rattle.bound_rules.specs.declared.bound.BodyWeights.{BodyWeights}
use Rattle.bound_rules.specs.Weights.{no_weights}
use Rattle.walk_sums.specs.declared.sections.Sum.{Sum}
use Rattle.walk_sums.specs.declared.sections.Sum.TheVariants as sum
use Rattle.walk_sums.specs.declared.sections.RoundSums.{RoundSums}
use Rattle.walk_sums.specs.Rounds.{IsClean}
use Rattle.walk_sums.specs.Weights.{AreWeights}
use Rattle.run_windows.specs.declared.costs.Costs.{Costs}
use Rattle.run_windows.specs.declared.costs.Start.{Start}
use Rattle.run_windows.specs.declared.costs.Start.TheVariants as start
use Rattle.run_windows.specs.Costs.{section, section_counts}
use Rattle.run_windows.specs.RunWindows.{IsLeastOf}
use Rattle.run_counts.specs.Counts.{AreCounts}
use Rattle.run_windows.specs.declared.costs.RunCosts.{RunCosts}
use Rattle.run_costs.specs.Tables.{no_sums}
use Rattle.run_costs.specs.CostsOf.{AreEach, IsTaskSection}
use Rattle.run_costs.specs.Makings.{AreRoundSums}
use Rattle.response_reasons.specs.EarlySections.{BeginsSection}
use Rattle.response_reasons.specs.Calls.{IsServiceLine}
use Rattle.response_text.specs.declared.part_lines.Name.{Name}
use Rattle.response_text.specs.declared.part_lines.Name.TheVariants as name
use Rattle.response_text.specs.declared.part_lines.FrontNames.{FrontNames}
use Rattle.response_text.specs.declared.part_lines.Bounded.{Bounded}
use Rattle.response_text.specs.declared.part_lines.PartNames.{PartNames}

-- ---- the longest stretch

-- an entry of task t takes so many counts
abbrev pub IsEntry : Config → App → (late t : ℕ) → Type 0
IsEntry config app late t = (t < length config.tasks) × (enter_counts config app false t ≡ late)

-- a tick of counter c does
abbrev pub IsTick : Config → (late c : ℕ) → Type 0
IsTick config late c = (c < length config.counters) × (tick_path config c ≡ late)

-- item i of a body has this number, and this source line
abbrev pub HasNumberAt : Func → (numbers : List ℕ) → (n i line : ℕ) → Type 0
HasNumberAt func numbers n i line = (get_or numbers i 0 ≡ n) × (line ≡ (item_of func i).line)

-- some item of it has
abbrev pub HasNumber : Func → (numbers : List ℕ) → (n line : ℕ) → Type 0
HasNumber func numbers n line = (i : ℕ) × (i < length func.items) × HasNumberAt func numbers n i line

-- one of some body takes so many counts where its task leaves
abbrev pub HasHeavyItem : App → List BodyWeights → (late line : ℕ) → Type 0
HasHeavyItem app weights late line = (f : ℕ) × (f < length app.funcs) × HasNumber (function app f) (get_or weights f no_weights).ending late line

abbrev pub line_name : Option ℕ → Name
line_name (Some line) = name.Line line
line_name None = name.Nothing

-- The first that takes so many counts, of boot, the entries of all tasks in turn and the ticks of all counters in turn; else the least line of such an item.
pub data IsStretchName (config : Config) (app : App) (weights : List BodyWeights) (late : ℕ) : Name → Type 0 where
  is_boot : boot_path config ≡ late → IsStretchName config app weights late name.Boot
  is_entry : (t : ℕ) → boot_path config ≢ late → IsLeastOf (IsEntry config app late) (Some t) → IsStretchName config app weights late (name.Entry t)
  is_tick : (c : ℕ) → boot_path config ≢ late → IsLeastOf (IsEntry config app late) None → IsLeastOf (IsTick config late) (Some c)
      → IsStretchName config app weights late (name.Tick c)
  is_item : (line : Option ℕ) → boot_path config ≢ late → IsLeastOf (IsEntry config app late) None → IsLeastOf (IsTick config late) None
      → IsLeastOf (HasHeavyItem app weights late) line → IsStretchName config app weights late (line_name line)

-- ---- the longest item

-- an item of this source line has so many instructions
abbrev pub HasLongItem : App → (lengths : List (List ℕ)) → (longest line : ℕ) → Type 0
HasLongItem app lengths longest line = (f : ℕ) × (f < length app.funcs) × HasNumber (function app f) (get_or lengths f []) longest line

-- the least line of one
pub record IsItemName (app : App) (longest : ℕ) (n : Name) : Type 0 where
  pub lengths : List (List ℕ)
  pub are_lengths : AreLengths app lengths
  pub line : Option ℕ
  pub is_least : IsLeastOf (HasLongItem app lengths longest) line
  pub is : n ≡ line_name line

-- ---- rounds

-- the work that the load says is less than the greatest sum
abbrev pub is_bounded : (work : Option ℕ) → Sum → Bool
is_bounded None s = false
is_bounded (Some own) (sum.Counts n) = ltb own n
is_bounded (Some own) s = true

abbrev pub bounded_by : (work : Option ℕ) → RoundSums → Bounded
bounded_by work told = record { first = is_bounded work told.first; next = is_bounded work told.later }

-- it bounds no rounds
abbrev pub unbounded : Bounded
unbounded = record { first = false; next = false }

-- of all tasks
pub record AreBounded (config : Config) (app : App) (load : List Entry) (weights : List BodyWeights) (all : List Bounded) : Type 0 where
  pub clean : List Bool
  pub are_clean : (t : ℕ) → t < length config.tasks → Decides (get_or clean t false) (IsClean app t)
  pub sums : List RoundSums
  pub are_sums : AreRoundSums config app clean weights sums
  pub each : AreEach (length config.tasks) unbounded (λ t b. b ≡ bounded_by (work load t) (get_or sums t no_sums)) all

-- ---- all windows

pub record ArePartNames (config : Config) (app : App) (load : List Entry) (costs : RunCosts) (names : PartNames) : Type 0 where
  pub counts : AreCounts app names.weights
  pub fit : AreWeights app names.weights
  pub stretch : IsStretchName config app names.weights costs.late names.stretch
  pub item : IsItemName app costs.longest names.item
  pub bounded : AreBounded config app load names.weights names.bounded

-- ---- in front of a window

-- the sections of all tasks have their greatest sums by these weights
abbrev pub AreOwnSections : Config → App → List BodyWeights → Costs → Type 0
AreOwnSections config app weights costs =
    (h : ℕ) → h < length config.tasks → (k : ℕ) → k < length config.tasks → IsTaskSection config app weights h k (section costs h k)

-- the least line at which a greatest section of task k for h begins; or the work of the task bounds it
abbrev pub IsSectionName : Config → App → List BodyWeights → Costs → (h k : ℕ) → Name → Type 0
IsSectionName config app weights costs h k (name.Line line) =
    (n : ℕ) × ((section costs h k).counts ≡ Some n) × (section_counts costs h k ≡ Some n) × IsLeastOf (BeginsSection config app weights h k n) (Some line)
IsSectionName config app weights costs h k name.Work = (section_counts costs h k ≡ Some 0) ⊎ (section_counts costs h k ≢ (section costs h k).counts)
    ⊎ ((section costs h k).counts ≡ None)
IsSectionName config app weights costs h k other = ⊥

-- a start has a section if it is one
abbrev pub IsBegunName : Config → App → List BodyWeights → Costs → (h : ℕ) → Start → Name → Type 0
IsBegunName config app weights costs h (start.Section k) n = IsSectionName config app weights costs h k n
IsBegunName config app weights costs h s n = n ≡ name.Nothing

pub record AreFrontNames (config : Config) (app : App) (costs : Costs) (names : PartNames) (h : ℕ) (s : Start) (fronts : FrontNames) : Type 0 where
  pub stretch : fronts.stretch ≡ names.stretch
  pub line : Option ℕ
  pub is_line : IsServiceLine config app costs h s line
  pub service : fronts.service ≡ line_name line
  pub item : fronts.item ≡ names.item
  pub section : IsBegunName config app names.weights costs h s fronts.section
