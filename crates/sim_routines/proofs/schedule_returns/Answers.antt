use Rattle.sim_routines.proofs.schedule_returns.Goals as goal
use Rattle.sim_routines.proofs.ComingBack.{comes_back}

pub returns : goal.returns
returns c = λ b state s t touched end fits may effect. comes_back b state s t touched end fits may effect
