use Rattle.std.proofs.Common.{refl, arith}
use Rattle.std.proofs.lemmas.Grind.{same_number_lists}
use Rattle.task_verify.proofs.labels.same_list.Goals as goal

pub returns : goal.returns
returns c = (
  λ _. same_number_lists c.args.one.now c.args.other.now c.if-one-other.false (λ k l. c.loop-number.invariant k (omega (arith, l, c.loop-number-test.false))),
  λ _. refl,
)
