use Rattle.symbol_build.proofs.PieceNames.{local_names_differ}
use Rattle.symbol_build.proofs.laws.local_names_differ.Goals as goal

pub returns : goal.returns
returns c = local_names_differ
