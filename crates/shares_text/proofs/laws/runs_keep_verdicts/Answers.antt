use Rattle.shares_text.proofs.Kept.{keeps_verdicts}
use Rattle.shares_text.proofs.laws.runs_keep_verdicts.Goals as goal

pub returns : goal.returns
returns c = keeps_verdicts
