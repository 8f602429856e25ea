use Rattle.std.proofs.Common.{◌≡◌, ◌≤◌, ◌-◌}
use Rattle.sim_induction.specs.Sound.{events_of}
use Rattle.sloth_runner.specs.Runner.{image_of, given_arrivals, count_of}
use Rattle.sloth_runner.proofs.RunInvariants.{IsBehindRun}
use Rattle.sloth_runner.proofs.runner.Runner.events.Given as goal

abbrev pub invariant-loop-self : goal.invariant-loop-self
invariant-loop-self l = record {
  ran : IsBehindRun l.fn.self l.self (count_of l.self);
  few : count_of l.self ≤ l.fn.n;
  events : l.events.items ≡ events_of (image_of l.fn.self) (given_arrivals l.fn.self) (count_of l.self);
}

abbrev pub decreases-loop-self : goal.decreases-loop-self
decreases-loop-self l = l.fn.n - count_of l.self
