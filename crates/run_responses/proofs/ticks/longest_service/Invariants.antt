use Rattle.std.proofs.Common.{◌≡◌, max, drop}
use Rattle.run_responses.specs.TickWindows.{longest_service}
use Rattle.run_responses.proofs.ticks.longest_service.Given as goal

abbrev pub invariant-loop-k : goal.invariant-loop-k
invariant-loop-k l = max l.most (longest_service l.costs l.k (drop l.k l.costs.tasks)) ≡ longest_service l.costs 0 l.costs.tasks
