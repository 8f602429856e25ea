use Rattle.symbol_build.proofs.OneFile.{one_symbol_file}
use Rattle.symbol_build.proofs.laws.one_symbol_file.Goals as goal

pub returns : goal.returns
returns c = one_symbol_file
