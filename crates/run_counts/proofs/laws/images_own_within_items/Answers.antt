use Rattle.run_counts.proofs.OwnItems.{own_in_image}
use Rattle.run_counts.proofs.laws.images_own_within_items.Goals as goal

pub returns : goal.returns
returns c = own_in_image
