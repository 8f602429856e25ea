use Rattle.sim_relation.proofs.below_is_found.Goals as goal
use Rattle.sim_relation.proofs.First.{below_found}

pub returns : goal.returns
returns c = λ b state s t fits k r. below_found b state s t fits k r
