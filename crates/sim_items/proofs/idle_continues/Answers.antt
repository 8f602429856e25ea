use Rattle.sim_items.proofs.idle_continues.Goals as goal
use Rattle.sim_items.specs.Progress.{progress_in}
use Rattle.sim_items.proofs.Outside.{idle_outside}
use Rattle.sim_items.proofs.Passing.{none_passed}

pub returns : goal.returns
returns c = λ b view arrivals count state s here none idle. idle_outside b view arrivals (progress_in b) count state s here none idle (none_passed b state s none)
