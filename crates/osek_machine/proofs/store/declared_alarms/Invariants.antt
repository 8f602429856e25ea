use Rattle.std.proofs.Common.{◌≡◌, map, take}
use Rattle.osek_machine.proofs.store.declared_alarms.Given as goal

abbrev pub invariant-loop-alarm : goal.invariant-loop-alarm
invariant-loop-alarm l = l.alarms.items ≡ map (λ d. record { left = d.time; cycle = d.cycle }) (take l.alarm-index l.config.alarms)
