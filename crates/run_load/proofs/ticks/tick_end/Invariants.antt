use Rattle.std.proofs.Common.{◌≡◌, drop}
use Rattle.run_load.specs.Ticks.{tick_end}
use Rattle.run_load.proofs.ticks.tick_end.Given as goal

abbrev pub invariant-loop-event : goal.invariant-loop-event
invariant-loop-event l = tick_end l.counter l.last (drop l.event-index l.later) ≡ tick_end l.counter l.before l.later
