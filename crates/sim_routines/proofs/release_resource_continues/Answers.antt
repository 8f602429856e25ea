use Rattle.sim_routines.proofs.release_resource_continues.Goals as goal
use Rattle.sim_routines.proofs.Holding.{releases}

pub returns : goal.returns
returns c = λ b state s t own object touched end fits may effect. releases b state s t own object touched end fits may effect
