use Rattle.trace_check.proofs.Longer.{last_is}
use Rattle.trace_check.proofs.timing.last_moment.Goals as goal

pub returns-in-Some : goal.returns-in-Some
returns-in-Some c = last_is c.args.arrivals.now c.in-Some.arrival.now c.in-Some.ensures.value
