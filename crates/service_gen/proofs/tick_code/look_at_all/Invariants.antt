use Rattle.std.proofs.Common.{◌≡◌, ◌++◌, drop}
use Rattle.service_gen.specs.Alarms.{AreAlarmsInRange}
use Rattle.service_gen.specs.AlarmPieces.{looks_code}
use Rattle.service_gen.proofs.tick_code.look_at_all.Given as goal

abbrev pub invariant-loop-i : goal.invariant-loop-i
invariant-loop-i l = (l.code.items ++ looks_code (drop l.i l.alarms) ≡ l.initial.code.items ++ looks_code l.alarms) × AreAlarmsInRange (drop l.i l.alarms)
