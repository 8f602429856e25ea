use Rattle.run_counts.proofs.OwnRounds.{own_within_items}
use Rattle.run_counts.proofs.laws.rounds_own_within_items.Goals as goal

pub returns : goal.returns
returns c = own_within_items
