use Rattle.std.proofs.Common.{◌≡◌, ◌++◌, drop}
use Rattle.vector_gen.specs.Boot.{lines_code}
use Rattle.vector_gen.proofs.boot_code.start_all.Given as goal

abbrev pub invariant-loop-i : goal.invariant-loop-i
invariant-loop-i l = l.code.items ++ lines_code l.i (drop l.i l.tasks) l.levels ≡ l.initial.code.items ++ lines_code 0 l.tasks l.levels
