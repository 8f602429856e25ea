use Rattle.std.proofs.Common.{◌≡◌, ◌++◌}
use Rattle.run_load.specs.RunLines.{tick_lines}
use Rattle.run_load.proofs.lines.push_ticks.Given as goal

abbrev pub invariant-loop-counter : goal.invariant-loop-counter
invariant-loop-counter l = l.text.items ≡ l.initial.text.items ++ tick_lines l.run.config.now l.run.load.now l.run.events.now l.tick l.counter
