use Rattle.std.proofs.Common.{◌≡◌, length}
use Rattle.code_rules.specs.Code.{held_list_fallen_into}
use Rattle.code_rules.proofs.Judged.{Judged}
use Rattle.task_verify.specs.Cases.{PlaceFault}
use Rattle.task_verify.proofs.bodies.walk.Given as goal

abbrev pub invariant-loop-number : goal.invariant-loop-number
invariant-loop-number l = record {
  finds : Judged (PlaceFault l.app l.func) (length l.func.items) l.number l.least;
  held : l.held.items ≡ held_list_fallen_into l.func l.number;
}
