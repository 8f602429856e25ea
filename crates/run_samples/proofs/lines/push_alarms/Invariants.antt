use Rattle.std.proofs.Common.{◌≡◌, ◌++◌}
use Rattle.run_samples.specs.SystemText.{alarm_lines}
use Rattle.run_samples.proofs.lines.push_alarms.Given as goal

abbrev pub invariant-loop-alarm : goal.invariant-loop-alarm
invariant-loop-alarm l = l.text.items ≡ l.fn.text.items ++ alarm_lines l.words l.alarm
