use Rattle.std.proofs.Common.{◌≡◌, ℕ, ◌<◌, false}
use Rattle.sloth_base.specs.Named.{item_of, function}
use Rattle.walk_sums.specs.Counted.{calls_for}
use Rattle.run_costs.proofs.record.is_named.Given as goal

abbrev pub invariant-loop-number : goal.invariant-loop-number
invariant-loop-number l = (f : ℕ) → f < l.number → (i : ℕ) → calls_for l.alarm l.service (item_of (function l.app f) i).op ≡ false
