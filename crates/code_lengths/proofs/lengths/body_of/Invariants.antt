use Rattle.std.proofs.Common.{ℕ, ◌<◌}
use Rattle.code_lengths.specs.Bodies.{IsBodyPlace}
use Rattle.code_lengths.proofs.lengths.body_of.Given as goal

abbrev pub invariant-loop-i : goal.invariant-loop-i
invariant-loop-i l = (k : ℕ) → k < l.i → IsBodyPlace l.funcs l.task k → ⊥
