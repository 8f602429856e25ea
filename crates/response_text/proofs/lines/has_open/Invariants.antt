use Rattle.std.proofs.Common.{◌≡◌}
use Rattle.response_text.specs.Lines.{has_open}
use Rattle.response_text.proofs.lines.has_open.Given as goal

abbrev pub invariant-loop-task : goal.invariant-loop-task
invariant-loop-task l = l.found ≡ has_open l.load l.responses l.task
