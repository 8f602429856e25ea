use Rattle.std.proofs.Common.{◌≡◌, ℕ, ◌+◌, ◌<◌, ◌≤◌, None, length, get_or}
use Rattle.sloth_base.specs.Named.{label_of}
use Rattle.task_verify.specs.Labels.{last_label_below}
use Rattle.task_verify.proofs.labels.labels_before.Given as goal

abbrev pub invariant-loop-number : goal.invariant-loop-number
invariant-loop-number l = record {
  count : length l.places.items ≡ length l.func.items + 1;
  exact : (place : ℕ) → place ≤ length l.func.items → get_or l.places.items place None ≡ last_label_below l.func.labels place l.number;
  before_count : length l.before.items ≡ l.number;
  befores : (k : ℕ) → k < l.number → get_or l.before.items k None ≡ last_label_below l.func.labels (label_of l.func k).item k;
}
