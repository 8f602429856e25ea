use Rattle.std.proofs.Common.{◌≡◌}
use Rattle.run_windows.specs.FirstUntold.{joined_making, making_of_joined, first_below}
use Rattle.run_windows.proofs.costs.untold_joined.Given as goal

abbrev pub invariant-loop-j : goal.invariant-loop-j
invariant-loop-j l = record {
  makings : l.makings ≡ first_below (joined_making l.costs l.h l.k) l.j;
  makers : l.makers ≡ first_below (making_of_joined l.costs l.h l.k) l.j;
}
