use Rattle.std.proofs.Common.{◌≡◌, ◌++◌, drop}
use Rattle.symbol_image.specs.Symbols.{resume_words}
use Rattle.symbol_image.proofs.symbol.push_resumes.Given as goal

abbrev pub invariant-loop-number : goal.invariant-loop-number
invariant-loop-number l = l.all.items ++ resume_words l.number (drop l.number l.tasks) ≡ l.fn.all.items ++ resume_words 0 l.tasks
