use Rattle.std.proofs.Common.{◌≡◌, ◌++◌, length}
use Rattle.observe.specs.Progress.{remaining}
use Rattle.sloth_runner.proofs.RunInvariants.{IsHandingOut}
use Rattle.sloth_runner.proofs.events.add_events.Given as goal

abbrev pub invariant-loop-event : goal.invariant-loop-event
invariant-loop-event l = record {
  added : l.events.items ++ remaining l.observer ≡ l.fn.events.items ++ remaining l.fn.observer;
  handing : IsHandingOut l.fn.observer l.observer;
}

abbrev pub decreases-loop-event : goal.decreases-loop-event
decreases-loop-event l = length (remaining l.observer)
