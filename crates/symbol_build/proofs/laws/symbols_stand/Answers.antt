use Rattle.symbol_build.proofs.StandingSymbols.{symbols_stand}
use Rattle.symbol_build.proofs.laws.symbols_stand.Goals as goal

pub returns : goal.returns
returns c = symbols_stand
