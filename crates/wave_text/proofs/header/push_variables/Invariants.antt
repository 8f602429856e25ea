use Rattle.std.proofs.Common.{◌≡◌, ◌++◌}
use Rattle.wave_text.specs.Header.{variable_lines}
use Rattle.wave_text.proofs.header.push_variables.Given as goal

abbrev pub invariant-loop-task : goal.invariant-loop-task
invariant-loop-task l = l.text.items ≡ l.fn.text.items ++ variable_lines l.fn.scope l.names l.task
