use Rattle.run_counts.proofs.Spending.{spends_on_lower}
use Rattle.run_counts.proofs.laws.runs_spend_on_lower.Goals as goal

pub returns : goal.returns
returns c = spends_on_lower
