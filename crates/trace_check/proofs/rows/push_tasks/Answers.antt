use Rattle.trace_check.specs.Rows.{task_rows}
use Rattle.trace_check.proofs.Below.{begins, goes_on}
use Rattle.trace_check.proofs.rows.push_tasks.Goals as goal

pub loop-task-init : goal.loop-task-init
loop-task-init c = begins (task_rows c.args.walk.now) c.args.rows.now.items

pub loop-task-preserved : goal.loop-task-preserved
loop-task-preserved c =
    goes_on (task_rows c.args.walk.now) c.args.rows.now.items c.loop-task.rows.items _ c.loop-task.task c.loop-task.invariant c.in_ok-push_task.ensures
