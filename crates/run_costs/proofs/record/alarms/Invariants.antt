use Rattle.run_costs.specs.CostsOf.{no_alarm, IsAlarm}
use Rattle.run_costs.specs.CostsOf.{AreEach}
use Rattle.run_costs.proofs.record.alarms.Given as goal

abbrev pub invariant-loop-number : goal.invariant-loop-number
invariant-loop-number l = AreEach l.number (no_alarm) (IsAlarm l.config l.app) l.list.items
