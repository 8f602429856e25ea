use Rattle.std.proofs.Common.{◌≡◌, ◌++◌, drop}
use Rattle.oil_rules.specs.Clocks.{counters_of}
use Rattle.oil_rules.proofs.resolving.declared_counters.Given as goal

abbrev pub invariant-loop-object : goal.invariant-loop-object
invariant-loop-object l = l.counters.items ++ counters_of (drop l.object-index l.objects) ≡ counters_of l.objects
