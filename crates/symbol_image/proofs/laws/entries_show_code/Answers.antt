use Rattle.symbol_image.proofs.Showing.{info_shows}
use Rattle.symbol_image.proofs.laws.entries_show_code.Goals as goal

pub returns : goal.returns
returns c = info_shows
