use Rattle.std.proofs.Common.{◌≡◌}
use Rattle.run_windows.specs.FirstUntold.{untold_section_making, first_below}
use Rattle.run_windows.proofs.costs.untold_apart.Given as goal

abbrev pub invariant-loop-j : goal.invariant-loop-j
invariant-loop-j l = l.makings ≡ first_below (untold_section_making l.costs l.h l.k) l.j
