use Rattle.std.proofs.Common.{length}
use Rattle.code_rules.proofs.Judged.{Judged}
use Rattle.task_verify.specs.Cases.{ItemFault}
use Rattle.task_verify.proofs.items.marked_faults.Given as goal

abbrev pub invariant-loop-number : goal.invariant-loop-number
invariant-loop-number l = Judged (ItemFault l.config l.app l.body l.func) (length l.func.items) l.number l.least
