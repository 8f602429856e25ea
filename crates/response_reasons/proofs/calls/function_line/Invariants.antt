use Rattle.run_windows.specs.RunWindows.{IsLeastOf}
use Rattle.run_windows.proofs.Leasts.{Below}
use Rattle.response_reasons.proofs.CallLines.{IsItemLine}
use Rattle.response_reasons.proofs.calls.function_line.Given as goal

abbrev pub invariant-loop-item : goal.invariant-loop-item
invariant-loop-item l = IsLeastOf (Below (IsItemLine l.walks.app l.counted l.number) l.item) l.least
