use Rattle.sim_routines.proofs.ticks.tick_law.Goals as goal
use Rattle.sim_routines.proofs.Ticked.{ticked_stands}

pub returns : goal.returns
returns c = λ b state end s counter touched fits may effect. ticked_stands b state end s counter touched fits may effect
