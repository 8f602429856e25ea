use Rattle.std.proofs.Common.{◌≡◌, map, take}
use Rattle.osek_machine.proofs.store.declared_data.Given as goal

abbrev pub invariant-loop-symbol : goal.invariant-loop-symbol
invariant-loop-symbol l = l.symbols.items ≡ map (λ y. y.bytes) (take l.symbol-index l.app.symbols)
