use Rattle.std.proofs.Common.{refl, arith}
use Rattle.std.proofs.lemmas.Grind.{same_number_lists}
use Rattle.task_verify.proofs.held_resources.is_held.Goals as goal

pub returns : goal.returns
returns c = (
  λ _. same_number_lists c.args.holds.now c.args.held.now c.if-holds-held.false (λ k l. c.loop-number.invariant k (omega (arith, l, c.loop-number-test.false))),
  λ _. refl,
)
