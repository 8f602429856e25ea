use Rattle.sim_laws.proofs.items_stand.Goals as goal
use Rattle.sim_laws.proofs.Items as items

pub returns : goal.returns
returns c = λ b image func item h is range. items.item_stands b image func item h is range
