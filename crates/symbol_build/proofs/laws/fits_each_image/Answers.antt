use Rattle.symbol_build.proofs.OneFile.{fits_each_image}
use Rattle.symbol_build.proofs.laws.fits_each_image.Goals as goal

pub returns : goal.returns
returns c = fits_each_image
