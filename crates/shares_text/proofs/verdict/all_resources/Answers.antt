use Rattle.shares_text.proofs.AllMembers.{all_members}
use Rattle.shares_text.proofs.verdict.all_resources.Goals as goal

pub returns : goal.returns
returns c = all_members
