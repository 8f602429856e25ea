use Rattle.std.proofs.Common.{◌≡◌, take}
use Rattle.std.specs.Prelude.{codes}
use Rattle.sloth_base.proofs.Kept.{Loop}
use Rattle.oil_table.specs.Objects.{is_used}
use Rattle.oil_rules.specs.TaskFaults.{TaskFault}
use Rattle.oil_rules.proofs.judging.task_faults.Given as goal

abbrev pub invariant-loop-number : goal.invariant-loop-number
invariant-loop-number l = record {
  finds : Loop (TaskFault l.events l.front) l.attrs l.number l.least;
  is_given : l.given ≡ is_used (take l.number l.attrs) (codes "PRIORITY");
  behind : l.before ≡ record { events = l.events; attrs = take l.number l.attrs };
}
