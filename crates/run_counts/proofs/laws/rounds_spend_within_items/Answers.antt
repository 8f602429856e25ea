use Rattle.run_counts.proofs.Rounded.{rounds_within}
use Rattle.run_counts.proofs.laws.rounds_spend_within_items.Goals as goal

pub returns : goal.returns
returns c = rounds_within
