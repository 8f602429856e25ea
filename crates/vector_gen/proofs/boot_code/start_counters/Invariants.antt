use Rattle.std.proofs.Common.{◌≡◌, ◌+◌, ◌++◌, drop, length}
use Rattle.sloth_base.specs.Owners.{first_counter_line}
use Rattle.vector_gen.specs.Boot.{counters_code}
use Rattle.vector_gen.proofs.boot_code.start_counters.Given as goal

abbrev pub invariant-loop-i : goal.invariant-loop-i
invariant-loop-i l = l.code.items ++ counters_code (length (drop l.i l.counters)) (first_counter_line + l.i) l.level ≡ l.initial.code.items ++ counters_code (length l.counters) first_counter_line l.level
