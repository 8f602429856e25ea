use Rattle.std.proofs.Common.{ℕ, ◌≡◌, ◌<◌, get_or, length}
use Rattle.code_lengths.specs.CodeLengths.{IsPrologueLength}
use Rattle.mem_map.proofs.all_lengths.prologue_lengths.Given as goal

abbrev pub invariant-loop-task : goal.invariant-loop-task
invariant-loop-task l =
    (length l.lengths.items ≡ l.task) × ((t : ℕ) → t < l.task → IsPrologueLength t l.config l.app (get_or l.lengths.items t 0))
