use Rattle.debug_view.proofs.Images.{images_show}
use Rattle.debug_view.proofs.laws.images_show.Goals as goal

pub returns : goal.returns
returns c = images_show
