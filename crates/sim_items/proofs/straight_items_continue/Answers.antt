use Rattle.sim_items.proofs.straight_items_continue.Goals as goal
use Rattle.sim_items.specs.Progress.{progress_in}
use Rattle.sim_items.proofs.Outside.{item_outside}
use Rattle.sim_items.proofs.Passing.{last_passed}

pub returns : goal.returns
returns c = λ b view arrivals count state s t here at numbers is placed last more.
    item_outside b view arrivals (progress_in b) count state s here t at numbers is placed last more
    (last_passed b view arrivals count state s here t at.current at.frame at.outer at.frames at.free at.here.done at.here.pc at.here.within at.inside)
