use Rattle.sim_items.proofs.expansions_continue.Goals as goal
use Rattle.sim_items.proofs.Inner.{inner_outside}

pub returns : goal.returns
returns c = λ b view arrivals count state s t here at is placed more. inner_outside b view arrivals count state s here t at placed is more
