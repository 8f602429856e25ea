use Rattle.sim_relation.proofs.mirror_of_stands.Goals as goal
use Rattle.sim_relation.proofs.MirrorOf.{mirror_of}

pub returns : goal.returns
returns c = λ b state s k. mirror_of b state s k
