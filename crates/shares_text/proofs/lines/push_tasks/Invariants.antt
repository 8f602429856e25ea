use Rattle.std.proofs.Common.{◌≡◌, ◌++◌}
use Rattle.shares_text.specs.SharesText.{task_word, words_below}
use Rattle.shares_text.proofs.lines.push_tasks.Given as goal

abbrev pub invariant-loop-task : goal.invariant-loop-task
invariant-loop-task l = l.text.items ≡ l.initial.text.items ++ words_below (task_word l.config) l.set l.task
