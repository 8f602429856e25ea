use Rattle.symbol_image.proofs.Loads.{sections_agree}
use Rattle.symbol_image.proofs.laws.sections_and_segments_agree.Goals as goal

pub returns : goal.returns
returns c = sections_agree
