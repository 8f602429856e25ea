use Rattle.run_counts.proofs.Spending.{spends_nothing}
use Rattle.run_counts.proofs.laws.runs_spend_nothing.Goals as goal

pub returns : goal.returns
returns c = spends_nothing
