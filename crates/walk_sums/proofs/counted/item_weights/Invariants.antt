use Rattle.std.proofs.Common.{◌≡◌, map, take}
use Rattle.walk_sums.specs.Weights.{body_weights}
use Rattle.walk_sums.proofs.counted.item_weights.Given as goal

abbrev pub invariant-loop-func : goal.invariant-loop-func
invariant-loop-func l = l.weights.items ≡ map body_weights (take l.func-index l.func-items)
