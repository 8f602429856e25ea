use Rattle.std.proofs.Common.{◌≡◌, ◌++◌, drop}
use Rattle.service_gen.specs.Alarms.{alarms_from}
use Rattle.service_gen.proofs.tick_code.numbered_alarms.Given as goal

abbrev pub invariant-loop-i : goal.invariant-loop-i
invariant-loop-i l = l.found.items ++ alarms_from l.counter l.i (drop l.i l.alarms) ≡ alarms_from l.counter 0 l.alarms
