use Rattle.std.proofs.Common.{◌≡◌, ◌+◌, ◌<◌, ◌^◌, length}
use Rattle.std.specs.List.{All}
use Rattle.observe.specs.Progress.{remaining}
use Rattle.sloth_runner.specs.Moments.{counts_with}
use Rattle.sloth_runner.proofs.RunInvariants.{IsHandingOut}
use Rattle.sloth_runner.proofs.tally.count_events.Given as goal

abbrev pub invariant-loop-event : goal.invariant-loop-event
invariant-loop-event l = record {
  room : All (λ number. number + length (remaining l.observer) < 2 ^ 32) l.counts;
  counts : counts_with l.counts (remaining l.observer) ≡ counts_with l.fn.counts (remaining l.fn.observer);
  handing : IsHandingOut l.fn.observer l.observer;
}

abbrev pub decreases-loop-event : goal.decreases-loop-event
decreases-loop-event l = length (remaining l.observer)
