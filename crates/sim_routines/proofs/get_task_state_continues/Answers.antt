use Rattle.sim_routines.proofs.get_task_state_continues.Goals as goal
use Rattle.sim_routines.proofs.StateTold.{tells_state}

pub returns : goal.returns
returns c = λ b state s t own object touched end fits may effect. tells_state b state s t own object touched end fits may effect
