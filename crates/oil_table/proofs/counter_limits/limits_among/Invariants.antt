use Rattle.std.proofs.Common.{◌≡◌, ◌++◌, drop}
use Rattle.oil_table.specs.AlarmCounters.{limits_among}
use Rattle.oil_table.proofs.counter_limits.limits_among.Given as goal

abbrev pub invariant-loop-object : goal.invariant-loop-object
invariant-loop-object l = l.limits.items ++ limits_among (drop l.object-index l.objects) ≡ limits_among l.objects
