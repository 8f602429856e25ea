use Rattle.sim_routines.proofs.get_task_id_continues.Goals as goal
use Rattle.sim_routines.proofs.Told.{tells}

pub returns : goal.returns
returns c = λ b state s t own object touched end fits may effect. tells b state s t own object touched end fits may effect
