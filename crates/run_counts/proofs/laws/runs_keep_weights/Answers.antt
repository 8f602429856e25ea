use Rattle.run_counts.proofs.laws.runs_keep_weights.Goals as goal
use Rattle.run_counts.proofs.Staged.{keeps_weights}

pub returns : goal.returns
returns c = keeps_weights
