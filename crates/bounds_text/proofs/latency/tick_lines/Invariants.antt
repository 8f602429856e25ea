use Rattle.std.proofs.Common.{◌≡◌}
use Rattle.bounds_text.specs.Latency.{tick_lines}
use Rattle.bounds_text.proofs.latency.tick_lines.Given as goal

abbrev pub invariant-loop-counter : goal.invariant-loop-counter
invariant-loop-counter l = l.text.items ≡ tick_lines l.config l.counter
