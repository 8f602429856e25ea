use Rattle.run_counts.proofs.Entered.{enters_by_weights}
use Rattle.run_counts.proofs.laws.runs_enter_by_weights.Goals as goal

pub returns : goal.returns
returns c = enters_by_weights
