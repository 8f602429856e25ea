use Rattle.rv32_expand.proofs.Least.{least_is_one}
use Rattle.rv32_expand.proofs.laws.least_is_one.Goals as goal

pub returns : goal.returns
returns c = least_is_one
