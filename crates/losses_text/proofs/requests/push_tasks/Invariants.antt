use Rattle.std.proofs.Common.{◌≡◌, ◌++◌}
use Rattle.losses_text.specs.RequestsText.{task_counts}
use Rattle.losses_text.proofs.requests.push_tasks.Given as goal

abbrev pub invariant-loop-task : goal.invariant-loop-task
invariant-loop-task l = l.text.items ≡ l.fn.text.items ++ task_counts l.image l.all l.task
