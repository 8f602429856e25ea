use Rattle.sim_relation.proofs.steps_keep.Goals as goal
use Rattle.sim_relation.proofs.First as first

pub returns : goal.returns
returns c = λ b old now s t own symbols fits k r step. first.steps_keep b old s t fits k r now own symbols step
