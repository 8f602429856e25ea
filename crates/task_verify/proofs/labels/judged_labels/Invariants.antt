use Rattle.std.proofs.Common.{length}
use Rattle.code_rules.proofs.Judged.{Judged}
use Rattle.task_verify.specs.Cases.{LabelFault}
use Rattle.task_verify.proofs.labels.judged_labels.Given as goal

abbrev pub invariant-loop-number : goal.invariant-loop-number
invariant-loop-number l = Judged (LabelFault l.func) (length l.func.labels) l.number l.least
