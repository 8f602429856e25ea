use Rattle.sim_laws.proofs.items_are_known.Goals as goal
use Rattle.sim_laws.proofs.Known as known

pub returns : goal.returns
returns c = λ b view func item w is services. known.item_known b view func item w is.declared is.inside services
