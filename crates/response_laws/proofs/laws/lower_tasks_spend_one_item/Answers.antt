use Rattle.response_laws.proofs.laws.lower_tasks_spend_one_item.Goals as goal
use Rattle.response_laws.proofs.LowerSpending.{lower_spend}

pub returns : goal.returns
returns c = lower_spend
