use Rattle.holds_infer.proofs.WellFormedLists.{one_filling}
use Rattle.holds_infer.proofs.laws.one_filling.Goals as goal

pub returns : goal.returns
returns c = one_filling
