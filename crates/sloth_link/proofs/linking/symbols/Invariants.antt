use Rattle.std.proofs.Common.{◌≡◌, ◌++◌, drop}
use Rattle.sloth_link.specs.Symbols.{data_of}
use Rattle.sloth_link.proofs.linking.symbols.Given as goal

abbrev pub invariant-loop-index : goal.invariant-loop-index
invariant-loop-index l = l.symbols.items ++ data_of (drop l.index l.places.symbols) (drop l.index l.app.symbols) ≡ data_of l.places.symbols l.app.symbols
