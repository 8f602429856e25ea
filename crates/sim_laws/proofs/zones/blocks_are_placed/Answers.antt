use Rattle.sim_laws.proofs.Fitting.{blocks_are_placed}
use Rattle.sim_laws.proofs.zones.blocks_are_placed.Goals as goal

pub returns : goal.returns
returns c = blocks_are_placed
