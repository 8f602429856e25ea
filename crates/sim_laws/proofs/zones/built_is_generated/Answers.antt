use Rattle.sim_laws.proofs.Generating.{built_is_generated}
use Rattle.sim_laws.proofs.zones.built_is_generated.Goals as goal

pub returns : goal.returns
returns c = built_is_generated
