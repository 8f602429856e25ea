use Rattle.std.proofs.Common.{◌≡◌, length}
use Rattle.observe.specs.Progress.{expected_count, remaining}
use Rattle.top_answers.proofs.events.drain.Given as goal

abbrev pub invariant-loop-event : goal.invariant-loop-event
invariant-loop-event l = expected_count l.observer ≡ expected_count l.fn.observer

abbrev pub decreases-loop-event : goal.decreases-loop-event
decreases-loop-event l = length (remaining l.observer)
