use Rattle.std.proofs.Common.{◌≡◌, ℕ, ◌<◌, get_or}
use Rattle.walk_sums.specs.Positions.{no_standing}
use Rattle.walk_sums.proofs.standing.is_standing.Given as goal

abbrev pub invariant-loop-number : goal.invariant-loop-number
invariant-loop-number l = (k : ℕ) → k < l.number → (get_or l.stack k no_standing).point ≡ (get_or l.other k no_standing).point
