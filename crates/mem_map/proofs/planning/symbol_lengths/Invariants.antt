use Rattle.std.proofs.Common.{◌≡◌, ◌++◌, drop}
use Rattle.std.specs.Prelude.{map}
use Rattle.mem_map.specs.Plan.{symbol_bytes}
use Rattle.mem_map.proofs.planning.symbol_lengths.Given as goal

abbrev pub invariant-loop-symbol : goal.invariant-loop-symbol
invariant-loop-symbol l = l.lengths.items ++ map symbol_bytes (drop l.symbol-index l.symbols) ≡ map symbol_bytes l.symbols
