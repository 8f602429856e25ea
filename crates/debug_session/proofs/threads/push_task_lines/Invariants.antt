use Rattle.std.proofs.Common.{◌≡◌, ◌++◌}
use Rattle.debug_session.specs.Replies.{task_line}
use Rattle.debug_session.specs.Texts.{up_to}
use Rattle.debug_session.proofs.threads.push_task_lines.Given as goal

abbrev pub invariant-loop-task : goal.invariant-loop-task
invariant-loop-task l = l.out.items ≡ l.fn.out.items ++ up_to (task_line l.names l.states) l.task
