use Rattle.std.proofs.Common.{◌≡◌, ◌++◌, drop, length}
use Rattle.symbol_image.specs.Entries.{all_symbol_bytes}
use Rattle.symbol_image.proofs.bodies.put_symbols.Given as goal

abbrev pub invariant-loop-number : goal.invariant-loop-number
invariant-loop-number l =
    l.info.items ++ all_symbol_bytes l.types l.lines l.addresses (length l.info.items) l.number (drop l.number l.symbols)
    ≡ l.fn.info.items ++ all_symbol_bytes l.types l.lines l.addresses (length l.fn.info.items) 0 l.symbols
