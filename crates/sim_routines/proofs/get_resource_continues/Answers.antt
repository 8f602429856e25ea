use Rattle.sim_routines.proofs.get_resource_continues.Goals as goal
use Rattle.sim_routines.proofs.Holding.{takes}

pub returns : goal.returns
returns c = λ b state s t own object level touched end fits on may effect. takes b state s t own object level touched end fits on may effect
