use Rattle.run_counts.proofs.Shared.{shares}
use Rattle.run_counts.proofs.laws.runs_share_counts.Goals as goal

pub returns : goal.returns
returns c = shares
