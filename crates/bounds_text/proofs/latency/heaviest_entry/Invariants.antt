use Rattle.std.proofs.Common.{◌≡◌, ◌≤◌, false}
use Rattle.call_graph.specs.Tables.{max_below}
use Rattle.sim_induction.specs.Events.{enter_counts}
use Rattle.bounds_text.proofs.latency.heaviest_entry.Given as goal

abbrev pub invariant-loop-task : goal.invariant-loop-task
invariant-loop-task l = record {
  is : l.most ≡ max_below l.task (λ t. enter_counts l.config l.app false t);
  short : l.most ≤ 108;
}
