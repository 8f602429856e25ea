use Rattle.sim_relation.proofs.changes_keep.Goals as goal
use Rattle.sim_relation.proofs.Changing.{change_stands}

pub returns : goal.returns
returns c = λ b old now s t state set fits k declared change. change_stands b old now s k fits t declared state set change
