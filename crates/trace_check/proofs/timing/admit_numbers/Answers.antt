use Rattle.trace_check.proofs.InPlace.{numbers_on}
use Rattle.trace_check.proofs.timing.admit_numbers.Goals as goal

pub loop-event-preserved : goal.loop-event-preserved
loop-event-preserved c =
    numbers_on c.args.events.now c.loop-event.event-index _ c.loop-event-test.true _ _ c.loop-event.invariant c.in_ok-push_number.ensures
