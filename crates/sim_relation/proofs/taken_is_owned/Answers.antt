use Rattle.sim_relation.proofs.taken_is_owned.Goals as goal
use Rattle.sim_relation.proofs.Choice.{taken_owned}

pub returns : goal.returns
returns c = λ b state s k line e. taken_owned b state s k line e
