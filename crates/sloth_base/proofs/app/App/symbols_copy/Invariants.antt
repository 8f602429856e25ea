use Rattle.std.proofs.Common.{◌≡◌, take}
use Rattle.sloth_base.proofs.app.App.symbols_copy.Given as goal

abbrev pub invariant-loop-symbol : goal.invariant-loop-symbol
invariant-loop-symbol l = l.copy.items ≡ take l.symbol-index l.self.symbols
