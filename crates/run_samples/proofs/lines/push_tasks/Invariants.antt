use Rattle.std.proofs.Common.{◌≡◌, ◌++◌}
use Rattle.run_samples.specs.SystemText.{task_parts}
use Rattle.run_samples.proofs.lines.push_tasks.Given as goal

abbrev pub invariant-loop-task : goal.invariant-loop-task
invariant-loop-task l = l.text.items ≡ l.fn.text.items ++ task_parts l.image l.seen l.words l.task
