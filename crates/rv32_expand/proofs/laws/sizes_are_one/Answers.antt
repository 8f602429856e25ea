use Rattle.rv32_expand.proofs.Least.{sizes_are_one}
use Rattle.rv32_expand.proofs.laws.sizes_are_one.Goals as goal

pub returns : goal.returns
returns c = sizes_are_one
