use Rattle.std.proofs.Common.{◌≡◌, ◌++◌, drop}
use Rattle.oil_rules.specs.Clocks.{alarms_of}
use Rattle.oil_rules.proofs.resolving.declared_alarms.Given as goal

abbrev pub invariant-loop-object : goal.invariant-loop-object
invariant-loop-object l = l.alarms.items ++ alarms_of l.tasks l.counters l.events (drop l.object-index l.objects) ≡ alarms_of l.tasks l.counters l.events l.objects
