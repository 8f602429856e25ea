use Rattle.shares_text.proofs.SharedSymbols.{symbols_agree}
use Rattle.shares_text.proofs.laws.symbols_agree.Goals as goal

pub returns : goal.returns
returns c = symbols_agree
