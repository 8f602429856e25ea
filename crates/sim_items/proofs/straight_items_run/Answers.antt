use Rattle.sim_items.proofs.straight_items_run.Goals as goal
use Rattle.sim_items.proofs.Straight.{straight_run}

pub returns : goal.returns
returns c = λ b view state s t fits stands at top numbers is placed last more. straight_run b view state s t fits stands at top numbers is placed last more
