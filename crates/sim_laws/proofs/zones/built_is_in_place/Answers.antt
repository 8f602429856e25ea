use Rattle.sim_laws.proofs.Generating.{built_is_in_place}
use Rattle.sim_laws.proofs.zones.built_is_in_place.Goals as goal

pub returns : goal.returns
returns c = built_is_in_place
