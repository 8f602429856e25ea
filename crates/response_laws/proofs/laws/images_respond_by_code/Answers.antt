use Rattle.response_laws.proofs.laws.images_respond_by_code.Goals as goal
use Rattle.response_laws.proofs.Images.{images_respond_by_code}

pub returns : goal.returns
returns c = images_respond_by_code
