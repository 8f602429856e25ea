use Rattle.std.proofs.Common.{drop}
use Rattle.losses_text.proofs.Along.{IsAlong}
use Rattle.losses_text.proofs.requests.requests_along.Given as goal

abbrev pub invariant-loop-event : goal.invariant-loop-event
invariant-loop-event l = IsAlong l.config l.app l.events (drop l.event-index l.events) l.osek l.all.items
