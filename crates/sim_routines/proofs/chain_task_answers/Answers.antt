use Rattle.sim_routines.proofs.chain_task_answers.Goals as goal
use Rattle.sim_routines.proofs.Chained.{chain_answers}

pub returns : goal.returns
returns c = λ b state s t own object place touched end fits may effect. chain_answers b state s t own object place touched end fits may effect
