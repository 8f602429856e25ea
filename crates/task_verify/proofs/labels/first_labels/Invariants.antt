use Rattle.std.proofs.Common.{◌≡◌, ℕ, ◌+◌, ◌≤◌, None, length, get_or}
use Rattle.task_verify.specs.Labels.{first_label_below}
use Rattle.task_verify.proofs.labels.first_labels.Given as goal

abbrev pub invariant-loop-number : goal.invariant-loop-number
invariant-loop-number l = record {
  count : length l.places.items ≡ length l.func.items + 1;
  exact : (place : ℕ) → place ≤ length l.func.items → get_or l.places.items place None ≡ first_label_below l.func.labels place l.number;
}
