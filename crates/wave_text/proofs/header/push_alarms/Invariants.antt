use Rattle.std.proofs.Common.{◌≡◌, ◌++◌}
use Rattle.wave_text.specs.Header.{alarm_lines}
use Rattle.wave_text.proofs.header.push_alarms.Given as goal

abbrev pub invariant-loop-alarm : goal.invariant-loop-alarm
invariant-loop-alarm l = l.text.items ≡ l.fn.text.items ++ alarm_lines l.alarm
