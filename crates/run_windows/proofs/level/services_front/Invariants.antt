use Rattle.std.proofs.Common.{◌≡◌, max, drop}
use Rattle.run_windows.specs.RunWindows.{services_front}
use Rattle.run_windows.proofs.level.services_front.Given as goal

abbrev pub invariant-loop-k : goal.invariant-loop-k
invariant-loop-k l = max l.most (services_front l.costs l.h l.k (drop l.k l.costs.tasks)) ≡ services_front l.costs l.h 0 l.costs.tasks
