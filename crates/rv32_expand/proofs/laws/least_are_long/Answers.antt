use Rattle.rv32_expand.proofs.Verified.{least_told}
use Rattle.rv32_expand.proofs.laws.least_are_long.Goals as goal

pub returns : goal.returns
returns c = least_told
