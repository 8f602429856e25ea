use Rattle.std.proofs.Common.{◌≡◌, take}
use Rattle.sloth_base.proofs.Kept.{Loop}
use Rattle.oil_rules.specs.TreeFaults.{ObjectFault}
use Rattle.oil_rules.proofs.judging.object_faults.Given as goal

abbrev pub invariant-loop-number : goal.invariant-loop-number
invariant-loop-number l = record {
  finds : Loop (ObjectFault l.table l.scheduler l.events) l.objects l.number l.least;
  behind : l.front ≡ take l.number l.objects;
}
