use Rattle.std.proofs.Common.{◌≡◌, ◌≤◌, ◌+◌, ◌-◌}
use Rattle.sloth_runner.specs.Runner.{HasRun, image_of, given_arrivals, count_of}
use Rattle.sloth_runner.specs.TaskStates.{IsLast}
use Rattle.sloth_runner.proofs.runner.Runner.state_at.Given as goal

abbrev pub invariant-loop-self : goal.invariant-loop-self
invariant-loop-self l = record {
  ran : HasRun l.self (image_of l.fn.self) (count_of l.self);
  image : image_of l.self ≡ image_of l.fn.self;
  arrivals : given_arrivals l.self ≡ given_arrivals l.fn.self;
  last : IsLast (image_of l.fn.self) (given_arrivals l.fn.self) (count_of l.self) l.last;
  few : count_of l.self ≤ l.fn.k + 1;
}

abbrev pub decreases-loop-self : goal.decreases-loop-self
decreases-loop-self l = l.fn.k + 1 - count_of l.self
