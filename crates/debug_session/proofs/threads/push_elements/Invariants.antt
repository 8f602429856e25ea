use Rattle.std.proofs.Common.{◌≡◌, ◌+◌, ◌++◌}
use Rattle.debug_session.specs.Replies.{thread_element}
use Rattle.debug_session.specs.Texts.{up_to}
use Rattle.debug_session.proofs.threads.push_elements.Given as goal

abbrev pub invariant-loop-place : goal.invariant-loop-place
invariant-loop-place l = l.out.items ≡ l.fn.out.items ++ up_to (λ place. thread_element l.view l.names (place + 1)) l.place
