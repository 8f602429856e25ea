use Rattle.std.proofs.Common.{◌≡◌, ◌++◌, drop, map}
use Rattle.orti_text.proofs.attributes.push_alarms.Given as goal

abbrev pub invariant-loop-alarm : goal.invariant-loop-alarm
invariant-loop-alarm l = l.names.items ++ map (λ a. a.name) (drop l.alarm-index l.alarms) ≡ l.fn.names.items ++ map (λ a. a.name) l.alarms
