use Rattle.sloth_commands.proofs.PrintedMap.{prints-map-of-image}
use Rattle.sloth_commands.proofs.laws.prints_map_of_image.Goals as goal

pub returns : goal.returns
returns c = prints-map-of-image
