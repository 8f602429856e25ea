use Rattle.std.proofs.Common.{◌≡◌, ◌++◌, drop}
use Rattle.symbol_image.specs.Symbols.{alarm_words}
use Rattle.symbol_image.proofs.symbol.push_alarms.Given as goal

abbrev pub invariant-loop-number : goal.invariant-loop-number
invariant-loop-number l = l.all.items ++ alarm_words l.number (drop l.number l.alarms) ≡ l.fn.all.items ++ alarm_words 0 l.alarms
