use Rattle.std.proofs.Common.{◌≡◌, ◌++◌}
use Rattle.tool_commands.specs.StatesText.{count_line, task_lines}
use Rattle.tool_commands.proofs.response_command.states_text.Given as goal

abbrev pub invariant-loop-task : goal.invariant-loop-task
invariant-loop-task l = l.text.items ≡ count_line l.seen.count ++ task_lines l.image l.seen.tasks l.task
