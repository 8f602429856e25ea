use Rattle.std.proofs.Common.{◌≡◌, ◌++◌}
use Rattle.map_text.specs.MapText.{need_lines}
use Rattle.map_text.proofs.lines.push_needs.Given as goal

abbrev pub invariant-loop-task : goal.invariant-loop-task
invariant-loop-task l = l.text.items ≡ l.fn.text.items ++ need_lines l.config l.bounds l.task
