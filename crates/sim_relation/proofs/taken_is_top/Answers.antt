use Rattle.sim_relation.proofs.taken_is_top.Goals as goal
use Rattle.sim_relation.proofs.Choice.{taken_top, taken_ready}

pub returns : goal.returns
returns c = λ b state s few k t is_task e. (taken_top b state s k few t is_task e, taken_ready b state s k few t is_task e)
