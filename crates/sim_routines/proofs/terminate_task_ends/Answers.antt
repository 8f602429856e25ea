use Rattle.sim_routines.proofs.terminate_task_ends.Goals as goal
use Rattle.sim_routines.proofs.Terminate.{terminate_ends}

pub returns : goal.returns
returns c = λ b state s t place touched end fits may effect. terminate_ends b state s t place touched end fits may effect
