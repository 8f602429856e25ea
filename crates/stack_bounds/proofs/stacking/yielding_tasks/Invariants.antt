use Rattle.std.proofs.Common.{◌≡◌, ℕ, ◌<◌, false, length, get_or}
use Rattle.sloth_base.specs.Named.{body_of}
use Rattle.call_graph.specs.Tables.{gives_way, task_at}
use Rattle.stack_bounds.proofs.stacking.yielding_tasks.Given as goal

abbrev pub invariant-loop-number : goal.invariant-loop-number
invariant-loop-number l = record {
  count : length l.yielding.items ≡ l.number;
  yielding : (t : ℕ) → t < l.number → get_or l.yielding.items t false ≡ gives_way (task_at l.tasks t) (get_or l.pauses (body_of l.funcs t) false);
}
