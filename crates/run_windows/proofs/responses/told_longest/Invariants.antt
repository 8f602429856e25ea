use Rattle.std.proofs.Common.{◌≡◌, ◌<◌, length}
use Rattle.run_windows.specs.Longest.{IsMost}
use Rattle.run_windows.proofs.responses.told_longest.Given as goal

abbrev pub invariant-loop-start : goal.invariant-loop-start
invariant-loop-start l = record {
  most : l.h < length l.run.costs.tasks → IsMost l.run.longest l.run.late l.run.costs l.h l.starts l.start-index l.most;
  count : length l.made ≡ length l.run.costs.tasks;
}
