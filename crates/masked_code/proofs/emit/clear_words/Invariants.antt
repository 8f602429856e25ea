use Rattle.std.proofs.Common.{◌≡◌, ◌++◌, ◌-◌}
use Rattle.masked_code.specs.Pieces.{words_clearing_code}
use Rattle.masked_code.proofs.emit.clear_words.Given as goal

abbrev pub invariant-loop-number : goal.invariant-loop-number
invariant-loop-number l = l.code.items ++ words_clearing_code (l.count - l.number) l.number l.base ≡ l.initial.code.items ++ words_clearing_code l.count 0 l.base
