use Rattle.std.proofs.Common.{◌≡◌}
use Rattle.response_text.specs.Lines.{response_lines}
use Rattle.response_text.proofs.lines.response_lines.Given as goal

abbrev pub invariant-loop-task : goal.invariant-loop-task
invariant-loop-task l = l.text.items ≡ response_lines l.config l.app l.load l.responses l.reasons l.task
