use Rattle.std.proofs.Common.{◌≡◌, ◌++◌}
use Rattle.trace_check.specs.ReasonLines.{state_lines}
use Rattle.trace_check.proofs.lines.push_states.Given as goal

abbrev pub invariant-loop-task : goal.invariant-loop-task
invariant-loop-task l = l.text.items ≡ l.fn.text.items ++ state_lines l.names l.osek.system l.task
