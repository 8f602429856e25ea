use Rattle.std.proofs.Common.{◌≡◌, ◌++◌}
use Rattle.debug_session.specs.Replies.{number_text}
use Rattle.debug_session.specs.Texts.{up_to}
use Rattle.debug_session.proofs.threads.push_numbers.Given as goal

abbrev pub invariant-loop-task : goal.invariant-loop-task
invariant-loop-task l = l.out.items ≡ l.fn.out.items ++ up_to number_text l.task
