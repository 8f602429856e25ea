use Rattle.sim_relation.proofs.entries_keep.Goals as goal
use Rattle.sim_relation.proofs.Entering.{entry_stands}

pub returns : goal.returns
returns c = λ b old now s t own place fits k is_task e ran entry. entry_stands b old now s k fits t is_task e own place ran entry
