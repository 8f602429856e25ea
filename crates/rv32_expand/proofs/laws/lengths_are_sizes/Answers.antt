use Rattle.rv32_expand.proofs.Counts.{size_is}
use Rattle.rv32_expand.proofs.laws.lengths_are_sizes.Goals as goal

pub returns : goal.returns
returns c = λ app places func address long o. size_is app places func address long o
