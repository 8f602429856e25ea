use Rattle.sim_items.proofs.returns_begin.Goals as goal
use Rattle.sim_items.proofs.Return.{return_begins}

pub returns : goal.returns
returns c = λ b view arrivals count state s t caller rest here at called_by back. return_begins b view arrivals count state s here t caller rest at called_by back
