use Rattle.std.proofs.Common.{◌≡◌, map, take}
use Rattle.walk_sums.specs.Counted.{body_counts}
use Rattle.walk_sums.proofs.counted.counted_weights.Given as goal

abbrev pub invariant-loop-func : goal.invariant-loop-func
invariant-loop-func l = l.weights.items ≡ map (body_counts l.counted) (take l.func-index l.func-items)
