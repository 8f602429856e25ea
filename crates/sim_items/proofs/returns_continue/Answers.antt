use Rattle.sim_items.proofs.returns_continue.Goals as goal
use Rattle.sim_items.proofs.Return.{return_goes_on}

pub returns : goal.returns
returns c = λ b view arrivals count state s t here at back. return_goes_on b view arrivals count state s here t at back
