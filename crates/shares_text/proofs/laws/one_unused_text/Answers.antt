use Rattle.shares_text.proofs.Deciding.{one_unused_text}
use Rattle.shares_text.proofs.laws.one_unused_text.Goals as goal

pub returns : goal.returns
returns c = one_unused_text
