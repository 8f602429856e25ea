use Rattle.run_windows.specs.RunWindows.{IsLeastOf}
use Rattle.run_windows.proofs.Leasts.{Below}
use Rattle.response_reasons.proofs.Items.{IsItemLine}
use Rattle.response_reasons.proofs.loops.Loops.line.Given as goal

abbrev pub invariant-loop-item : goal.invariant-loop-item
invariant-loop-item l = IsLeastOf (Below (IsItemLine l.self.walks.config l.self.walks.app l.self.weights l.self.kind l.level l.number) l.item) l.least
