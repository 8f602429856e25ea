use Rattle.sim_relation.proofs.leaves_keep.Goals as goal
use Rattle.sim_relation.proofs.First as first

pub returns : goal.returns
returns c = λ b old now s t own place fits k r leave. first.leaves_keep b old s t fits k r now own place leave
