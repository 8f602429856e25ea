use Rattle.sim_routines.proofs.activate_task_continues.Goals as goal
use Rattle.sim_routines.proofs.Activated.{activates}

pub returns : goal.returns
returns c = λ b state s t own object touched end fits may effect. activates b state s t own object touched end fits may effect
