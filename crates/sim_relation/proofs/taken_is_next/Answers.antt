use Rattle.sim_relation.proofs.taken_is_next.Goals as goal
use Rattle.sim_relation.proofs.Choice.{taken_next}

pub returns : goal.returns
returns c = λ b state s k line declared e. taken_next b state s k line declared e
