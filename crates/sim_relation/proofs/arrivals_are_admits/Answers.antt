use Rattle.sim_relation.proofs.arrivals_are_admits.Goals as goal
use Rattle.sim_relation.proofs.Arrive.{stands_arrived}

pub returns : goal.returns
returns c = λ b lines state s few below k. stands_arrived b lines state s few below k
