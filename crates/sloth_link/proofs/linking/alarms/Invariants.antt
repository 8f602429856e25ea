use Rattle.std.proofs.Common.{◌≡◌, ◌++◌, drop}
use Rattle.sloth_link.specs.Symbols.{alarm_data}
use Rattle.sloth_link.proofs.linking.alarms.Given as goal

abbrev pub invariant-loop-number : goal.invariant-loop-number
invariant-loop-number l = l.alarms.items ++ alarm_data l.number (drop l.number l.config.alarms) ≡ alarm_data 0 l.config.alarms
