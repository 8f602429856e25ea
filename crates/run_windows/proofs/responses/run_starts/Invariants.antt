use Rattle.std.proofs.Common.{◌≡◌, ◌++◌, drop}
use Rattle.run_windows.specs.RunWindows.{run_task_starts, run_starts}
use Rattle.run_windows.proofs.responses.run_starts.Given as goal

abbrev pub invariant-loop-j : goal.invariant-loop-j
invariant-loop-j l = l.starts.items ++ run_task_starts l.costs l.h l.j (drop l.j l.costs.tasks) ≡ run_starts l.costs l.h l.boot
