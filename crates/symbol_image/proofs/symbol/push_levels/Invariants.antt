use Rattle.std.proofs.Common.{◌≡◌, ◌++◌, drop}
use Rattle.symbol_image.specs.Symbols.{saved_words}
use Rattle.symbol_image.proofs.symbol.push_levels.Given as goal

abbrev pub invariant-loop-number : goal.invariant-loop-number
invariant-loop-number l = l.all.items ++ saved_words l.number (drop l.number l.resources) ≡ l.fn.all.items ++ saved_words 0 l.resources
