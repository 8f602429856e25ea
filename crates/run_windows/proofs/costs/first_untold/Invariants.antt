use Rattle.std.proofs.Common.{◌≡◌}
use Rattle.run_windows.specs.FirstUntold.{level_rounds, level_makings, untold_lower, first_below}
use Rattle.run_windows.proofs.costs.first_untold.Given as goal

abbrev pub invariant-loop-k : goal.invariant-loop-k
invariant-loop-k l = record {
  rounds : l.rounds ≡ first_below (level_rounds l.costs l.h) l.k;
  makings : l.makings ≡ first_below (level_makings l.costs l.h) l.k;
  lower : l.lower ≡ first_below (untold_lower l.costs l.h) l.k;
}
