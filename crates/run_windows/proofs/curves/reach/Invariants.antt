use Rattle.run_windows.specs.Cycles.{AreMultiples}
use Rattle.run_windows.proofs.curves.reach.Given as goal

abbrev pub invariant-loop-turn : goal.invariant-loop-turn
invariant-loop-turn l = AreMultiples l.costs l.window l.sets l.t l.marks

abbrev pub invariant-loop-j : goal.invariant-loop-j
invariant-loop-j l = AreMultiples l.costs l.window l.sets l.t l.marks
