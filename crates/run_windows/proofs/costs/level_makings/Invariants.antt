use Rattle.std.proofs.Common.{◌≡◌}
use Rattle.run_windows.specs.FirstUntold.{level_making, first_below}
use Rattle.run_windows.proofs.costs.level_makings.Given as goal

abbrev pub invariant-loop-j : goal.invariant-loop-j
invariant-loop-j l = l.found ≡ first_below (level_making l.costs l.h l.k) l.j
