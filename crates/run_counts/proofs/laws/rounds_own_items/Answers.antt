use Rattle.run_counts.proofs.OwnItems.{own_items_of}
use Rattle.run_counts.proofs.laws.rounds_own_items.Goals as goal

pub returns : goal.returns
returns c = own_items_of
