use Rattle.sim_laws.proofs.Housed.{blocks_are_in}
use Rattle.sim_laws.proofs.zones.blocks_lie_inside.Goals as goal

pub returns : goal.returns
returns c = blocks_are_in
