use Rattle.sim_laws.proofs.Housed.{blocks_follow_closely}
use Rattle.sim_laws.proofs.zones.blocks_follow_closely.Goals as goal

pub returns : goal.returns
returns c = blocks_follow_closely
