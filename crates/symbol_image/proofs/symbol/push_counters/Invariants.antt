use Rattle.std.proofs.Common.{◌≡◌, ◌++◌, drop}
use Rattle.symbol_image.specs.Symbols.{counter_words}
use Rattle.symbol_image.proofs.symbol.push_counters.Given as goal

abbrev pub invariant-loop-number : goal.invariant-loop-number
invariant-loop-number l = l.all.items ++ counter_words l.number (drop l.number l.counters) ≡ l.fn.all.items ++ counter_words 0 l.counters
