use Rattle.std.proofs.Common.{◌≡◌, ◌++◌}
use Rattle.trace_check.specs.Rows.{rows_below, task_rows}
use Rattle.trace_check.proofs.rows.push_tasks.Given as goal

abbrev pub invariant-loop-task : goal.invariant-loop-task
invariant-loop-task l = l.rows.items ≡ l.fn.rows.items ++ rows_below l.task (task_rows l.walk)
