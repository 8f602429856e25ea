use Rattle.trace_check.specs.Lateness.{NonePasses}
use Rattle.trace_check.proofs.late.passing_place.Given as goal

abbrev pub invariant-loop-i : goal.invariant-loop-i
invariant-loop-i l = NonePasses l.moment l.events l.i
