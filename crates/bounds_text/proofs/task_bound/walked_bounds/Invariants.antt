use Rattle.std.proofs.Common.{◌≡◌, ℕ, ◌<◌, length, get_or}
use Rattle.bound_rules.specs.declared.bound.Bound.TheVariants as bound
use Rattle.bounds_text.specs.Bounds.{IsTold}
use Rattle.bounds_text.proofs.task_bound.walked_bounds.Given as goal

abbrev pub invariant-loop-task : goal.invariant-loop-task
invariant-loop-task l = record {
  count : length l.bounds.items ≡ l.task;
  each : (h : ℕ) → h < l.task → IsTold l.walks.config l.walks.app h (get_or l.bounds.items h bound.Endless);
}
