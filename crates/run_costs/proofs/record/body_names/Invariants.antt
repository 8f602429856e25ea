use Rattle.std.proofs.Common.{◌≡◌, ℕ, ◌<◌, false}
use Rattle.sloth_base.specs.Named.{item_of}
use Rattle.walk_sums.specs.Counted.{calls_for}
use Rattle.run_costs.proofs.record.body_names.Given as goal

abbrev pub invariant-loop-number : goal.invariant-loop-number
invariant-loop-number l = (i : ℕ) → i < l.number → calls_for l.alarm l.service (item_of l.func i).op ≡ false
