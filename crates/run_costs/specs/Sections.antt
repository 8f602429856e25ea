-- The raised sections of lower tasks.
use Rattle.std.specs.Prelude.{ℕ, ◌≤◌, ◌<◌, ◌≡◌, true, List}
use Rattle.sloth_base.specs.declared.config.Config.{Config}
use Rattle.sloth_base.specs.declared.app.App.{App}
use Rattle.sloth_base.specs.declared.app.Op.{Op}
use Rattle.code_rules.specs.Code.{IsItem}
use Rattle.bound_rules.specs.declared.bound.BodyWeights.{BodyWeights}
use Rattle.bound_rules.specs.Weights.{ending_weight}
use Rattle.osek_scheduler.specs.Apart.{static_priority}
use Rattle.osek_blocking.specs.Walks.{Position}
use Rattle.osek_blocking.specs.Sections.{priority_at, operation_at}
use Rattle.walk_sums.specs.declared.counted.Counted.{Counted}
use Rattle.walk_sums.specs.Rounds.{Reaches}
use Rattle.walk_sums.specs.Counted.{is_ending_counted}

-- a walk of task k reaches a position at which its current priority is at least the static priority of h
abbrev pub IsRaisedAt : Config → App → (h k : ℕ) → Position → Type 0
IsRaisedAt config app h k at = Reaches app k at × (static_priority config h ≤ priority_at config app k at)

-- there is one
abbrev pub IsRaised : Config → App → (h k : ℕ) → Type 0
IsRaised config app h k = (at : Position) × IsRaisedAt config app h k at

-- with an operation that counts
abbrev pub DoesRaised : Config → App → (h k : ℕ) → Counted → Type 0
DoesRaised config app h k c = (at : Position) × IsRaisedAt config app h k at × (is_ending_counted c (operation_at app at) ≡ true)

-- each item weighs something
abbrev pub AllWeigh : App → List BodyWeights → Type 0
AllWeigh app weights = (f i : ℕ) (o : Op) → IsItem app f i o → 0 < ending_weight weights f i
