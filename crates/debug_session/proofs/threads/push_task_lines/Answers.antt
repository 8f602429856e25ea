use Rattle.debug_session.specs.Replies.{task_line}
use Rattle.debug_session.proofs.Growing.{one_more, none_yet}
use Rattle.debug_session.proofs.threads.push_task_lines.Goals as goal

pub loop-task-init : goal.loop-task-init
loop-task-init c = none_yet (task_line c.args.names.now c.args.states.now) c.args.out.now.items

pub loop-task-preserved : goal.loop-task-preserved
loop-task-preserved c =
    one_more (task_line c.args.names.now c.args.states.now) c.loop-task.task c.args.out.now.items c.loop-task.out.items _ c.loop-task.invariant c.in_ok-push_task_line.ensures
