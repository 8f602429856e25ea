use Rattle.std.proofs.Common.{◌≡◌, ℕ, ◌<◌, length, get_or}
use Rattle.call_graph.specs.Tables.{task_bytes}
use Rattle.stack_bounds.proofs.stacking.task_bytes.Given as goal

abbrev pub invariant-loop-task : goal.invariant-loop-task
invariant-loop-task l = record {
  count : length l.bytes.items ≡ l.task;
  bytes : (t : ℕ) → t < l.task → get_or l.bytes.items t 0 ≡ task_bytes l.funcs l.table t;
}
