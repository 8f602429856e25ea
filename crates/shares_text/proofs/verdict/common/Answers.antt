use Rattle.shares_text.proofs.Joining.{has_and}
use Rattle.shares_text.proofs.verdict.common.Goals as goal

pub returns : goal.returns
returns c = has_and c.args.one c.args.other
