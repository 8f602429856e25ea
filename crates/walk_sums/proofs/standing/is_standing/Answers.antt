use Rattle.std.proofs.Common.{arith}
use Rattle.walk_sums.specs.Positions.{no_standing}
use Rattle.walk_sums.proofs.Positions.{same_position}
use Rattle.walk_sums.proofs.standing.is_standing.Goals as goal

pub returns : goal.returns
returns c =
    λ _. same_position c.args.stack.now c.args.other.now no_standing c.if-stack-other.false (λ k l. c.loop-number.invariant k (omega (arith, l, c.loop-number-test.false)))
