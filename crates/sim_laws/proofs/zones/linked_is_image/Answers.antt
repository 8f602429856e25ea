use Rattle.sim_laws.proofs.Images.{linked_is_image}
use Rattle.sim_laws.proofs.zones.linked_is_image.Goals as goal

pub returns : goal.returns
returns c = linked_is_image
