-- Why there is no number: a loop on walks of a task, or too great a load.
use Rattle.std.specs.Prelude.{ℕ, ◌<◌, ◌≡◌, ◌≢◌, ◌⊎◌, Bool, true, false, List, length, Option, Some, None}
use Rattle.sloth_base.specs.declared.config.Config.{Config}
use Rattle.sloth_base.specs.declared.app.App.{App}
use Rattle.bound_rules.specs.declared.bound.BodyWeights.{BodyWeights}
use Rattle.walk_sums.specs.declared.levels.Kind.TheVariants as kinds
use Rattle.walk_sums.specs.declared.counted.Counted.{Counted}
use Rattle.walk_sums.specs.declared.counted.Counted.TheVariants as counts
use Rattle.walk_sums.specs.Counted.{counted_weights}
use Rattle.walk_sums.specs.Rounds.{IsClean}
use Rattle.walk_sums.specs.Weights.{item_weights}
use Rattle.response_reasons.specs.Loops.{HasTurnLoop, HasSectionLoop}
use Rattle.run_windows.specs.declared.costs.Costs.{Costs}
use Rattle.run_windows.specs.declared.costs.Untold.{Untold}
use Rattle.run_windows.specs.declared.costs.Untold.TheVariants as untold
use Rattle.run_windows.specs.FirstUntold.{first_untold}
use Rattle.run_windows.specs.RunWindows.{IsLeastOf}
use Rattle.run_windows.specs.Windows.{is_lower}
use Rattle.response_reasons.specs.declared.reasons.Reason.{Reason}
use Rattle.response_reasons.specs.declared.reasons.Reason.TheVariants as reason

-- ---- loops

-- an item of this line lies on a loop along which something weighs, in rounds of task k; in its turns, if it is not clean
abbrev pub HasRoundLoop : Config → App → (weights : List BodyWeights) → (k line : ℕ) → Type 0
HasRoundLoop config app weights k line =
    (IsClean app k × HasTurnLoop config app weights kinds.Rounds k line) ⊎ (¬ (IsClean app k) × HasTurnLoop config app weights kinds.Turns k line)

-- along which something counts
abbrev pub HasCountedLoop : Config → App → Counted → (k line : ℕ) → Type 0
HasCountedLoop config app c k line = HasRoundLoop config app (counted_weights c app) k line

-- along which task k activates task j, another one
abbrev pub HasActivatingLoop : Config → App → (k j line : ℕ) → Type 0
HasActivatingLoop config app k j line = (k ≢ j) × HasCountedLoop config app (counts.Activations j) k line

-- or sets its events
abbrev pub HasMakingLoop : Config → App → (k j line : ℕ) → Type 0
HasMakingLoop config app k j line = HasActivatingLoop config app k j line ⊎ HasCountedLoop config app (counts.Settings j) k line

-- the same in sections of task k for h
abbrev pub HasSectionMakingLoop : Config → App → (h k j line : ℕ) → Type 0
HasSectionMakingLoop config app h k j line =
    HasSectionLoop config app (counted_weights (counts.Activations j) app) h k line ⊎ HasSectionLoop config app (counted_weights (counts.Settings j) app) h k line

-- for a task of the level of h, of the first n
abbrev pub HasLevelLoop : Config → App → Costs → (n h k line : ℕ) → Type 0
HasLevelLoop config app costs n h k line = (j : ℕ) × (j < n) × ((is_lower costs h j ≡ false) × HasSectionMakingLoop config app h k j line)

-- ---- lines

-- The least line of such a loop: one of rounds or sections that have no number, or along which they make tasks Ready without end. Each item weighs there, or
-- what makes tasks Ready.
abbrev pub IsUntoldLine : Config → App → Costs → (h : ℕ) → Untold → Option ℕ → Type 0
IsUntoldLine config app costs h (untold.Rounds k) line = IsLeastOf (HasRoundLoop config app (item_weights app) k) line
IsUntoldLine config app costs h (untold.Makings k j) line = IsLeastOf (HasMakingLoop config app k j) line
IsUntoldLine config app costs h (untold.Section k) line = IsLeastOf (HasSectionLoop config app (item_weights app) h k) line
IsUntoldLine config app costs h (untold.SectionMakings k) line = IsLeastOf (HasLevelLoop config app costs (length costs.tasks) h k) line

-- ---- reasons

-- the loop of what has no number, if there is one; else it is too large a number
abbrev pub loop_reason : Untold → (line : Option ℕ) → Reason
loop_reason u None = reason.Load
loop_reason (untold.Rounds k) (Some line) = reason.Loop k line
loop_reason (untold.Makings k j) (Some line) = reason.Makes k line
loop_reason (untold.Section k) (Some line) = reason.Loop k line
loop_reason (untold.SectionMakings k) (Some line) = reason.Makes k line

-- the reason, by the first that has no number; where all has one, more comes than is served
abbrev pub IsReasonFor : Config → App → Costs → (h : ℕ) → Option Untold → Reason → Type 0
IsReasonFor config app costs h None r = r ≡ reason.Load
IsReasonFor config app costs h (Some u) r = (line : Option ℕ) × IsUntoldLine config app costs h u line × (r ≡ loop_reason u line)

-- it has a reason where it is asked for
abbrev pub IsReasonIf : Config → App → Costs → (h : ℕ) → (asked : Bool) → Option Reason → Type 0
IsReasonIf config app costs h true (Some r) = IsReasonFor config app costs h (first_untold costs h) r
IsReasonIf config app costs h true None = ⊥
IsReasonIf config app costs h false (Some r) = ⊥
IsReasonIf config app costs h false None = Unit {0}
