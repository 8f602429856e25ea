use Rattle.response_laws.proofs.laws.images_respond.Goals as goal
use Rattle.response_laws.proofs.Images.{images_respond}

pub returns : goal.returns
returns c = images_respond
