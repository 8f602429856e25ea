use Rattle.std.proofs.Common.{length}
use Rattle.code_rules.specs.WellFormed.{BodyFault}
use Rattle.code_rules.proofs.Judged.{Judged}
use Rattle.task_verify.proofs.bodies.judge.Given as goal

abbrev pub invariant-loop-body : goal.invariant-loop-body
invariant-loop-body l = Judged (BodyFault l.config l.app) (length l.app.funcs) l.body l.least
