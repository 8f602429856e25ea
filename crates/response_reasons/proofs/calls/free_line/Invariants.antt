use Rattle.run_windows.specs.RunWindows.{IsLeastOf}
use Rattle.run_windows.proofs.Leasts.{Below}
use Rattle.response_reasons.specs.Calls.{HasCodedServer}
use Rattle.response_reasons.proofs.calls.free_line.Given as goal

abbrev pub invariant-loop-code : goal.invariant-loop-code
invariant-loop-code l = IsLeastOf (Below (HasCodedServer l.walks.config l.walks.app l.costs l.h) l.code) l.least
