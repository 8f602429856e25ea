use Rattle.std.proofs.Common.{◌≡◌, max, false, length}
use Rattle.run_load.specs.Ticks.{longest_tick}
use Rattle.run_load.proofs.ticks.longest_tick.Given as goal

abbrev pub invariant-loop-event : goal.invariant-loop-event
invariant-loop-event l = max (longest_tick l.counter l.due l.last l.rest) l.most ≡ longest_tick l.counter false 0 l.events

abbrev pub decreases-loop-event : goal.decreases-loop-event
decreases-loop-event l = length l.rest
