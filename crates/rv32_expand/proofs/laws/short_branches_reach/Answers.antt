use Rattle.rv32_expand.proofs.Verified.{short_reaches}
use Rattle.rv32_expand.proofs.laws.short_branches_reach.Goals as goal

pub returns : goal.returns
returns c = short_reaches
