use Rattle.symbol_image.proofs.Reading.{symbols_read_back}
use Rattle.symbol_image.proofs.laws.symbols_read_back.Goals as goal

pub returns : goal.returns
returns c = symbols_read_back
