use Rattle.sim_items.proofs.flowing_items_continue.Goals as goal
use Rattle.sim_items.proofs.FlowRoute.{flow_outside}

pub returns : goal.returns
returns c = λ b view arrivals count state s t here at is stand. flow_outside b view arrivals count state s here t at is stand
