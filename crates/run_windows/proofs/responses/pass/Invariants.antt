use Rattle.run_windows.specs.Settling.{AreBelow, HasGrown}
use Rattle.run_windows.proofs.responses.pass.Given as goal

abbrev pub invariant-loop-j : goal.invariant-loop-j
invariant-loop-j l = record {
  below : AreBelow l.costs l.window l.numbers l.counts;
  grown : HasGrown l.costs l.window l.initial.numbers l.numbers l.counts l.j l.grown;
}
