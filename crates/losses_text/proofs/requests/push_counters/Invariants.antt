use Rattle.std.proofs.Common.{◌≡◌, ◌++◌}
use Rattle.losses_text.specs.RequestsText.{counter_counts}
use Rattle.losses_text.proofs.requests.push_counters.Given as goal

abbrev pub invariant-loop-counter : goal.invariant-loop-counter
invariant-loop-counter l = l.text.items ≡ l.fn.text.items ++ counter_counts l.image l.all l.counter
