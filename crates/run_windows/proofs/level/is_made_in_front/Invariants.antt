use Rattle.std.proofs.Common.{◌≡◌, drop}
use Rattle.run_windows.specs.RunWindows.{is_made_in_front}
use Rattle.run_windows.proofs.level.is_made_in_front.Given as goal

abbrev pub invariant-loop-k : goal.invariant-loop-k
invariant-loop-k l = is_made_in_front l.way l.costs l.h l.k (drop l.k l.services) ≡ is_made_in_front l.way l.costs l.h 0 l.services
