use Rattle.std.proofs.Common.{◌≡◌, ◌++◌}
use Rattle.run_samples.specs.SystemText.{counter_lines}
use Rattle.run_samples.proofs.lines.push_counters.Given as goal

abbrev pub invariant-loop-counter : goal.invariant-loop-counter
invariant-loop-counter l = l.text.items ≡ l.fn.text.items ++ counter_lines l.image l.words l.counter
