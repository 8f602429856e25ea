use Rattle.sim_relation.proofs.none_taken.Goals as goal
use Rattle.sim_relation.proofs.Undisturbed.{undisturbed}

pub returns : goal.returns
returns c = λ b state s few k e. undisturbed b state s few k e
