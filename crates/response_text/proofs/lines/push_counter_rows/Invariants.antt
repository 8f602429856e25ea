use Rattle.std.proofs.Common.{◌≡◌, ◌++◌}
use Rattle.response_text.specs.Lines.{counter_rows}
use Rattle.response_text.proofs.lines.push_counter_rows.Given as goal

abbrev pub invariant-loop-counter : goal.invariant-loop-counter
invariant-loop-counter l = l.text.items ≡ l.initial.text.items ++ counter_rows l.config l.load l.tick l.counter
