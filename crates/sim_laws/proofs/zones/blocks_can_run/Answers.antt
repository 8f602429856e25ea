use Rattle.sim_laws.proofs.Ready.{blocks_can_run}
use Rattle.sim_laws.proofs.zones.blocks_can_run.Goals as goal

pub returns : goal.returns
returns c = blocks_can_run
