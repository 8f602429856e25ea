use Rattle.std.proofs.Common.{◌≡◌, ◌++◌, drop}
use Rattle.symbol_image.specs.Symbols.{state_words}
use Rattle.symbol_image.proofs.symbol.push_states.Given as goal

abbrev pub invariant-loop-number : goal.invariant-loop-number
invariant-loop-number l = l.all.items ++ state_words l.number (drop l.number l.tasks) ≡ l.fn.all.items ++ state_words 0 l.tasks
