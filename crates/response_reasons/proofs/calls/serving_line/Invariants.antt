use Rattle.run_windows.specs.RunWindows.{IsLeastOf}
use Rattle.run_windows.proofs.Leasts.{Below}
use Rattle.response_reasons.proofs.Servers.{IsServer}
use Rattle.response_reasons.proofs.calls.serving_line.Given as goal

abbrev pub invariant-loop-k : goal.invariant-loop-k
invariant-loop-k l = IsLeastOf (Below (IsServer l.walks.config l.walks.app l.costs l.h l.fn.counted) l.k) l.least
