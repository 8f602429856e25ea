use Rattle.sim_routines.proofs.get_resource_stretches.Goals as goal
use Rattle.sim_routines.proofs.GoingOnStretch.{takes_stretches}

pub returns : goal.returns
returns c = λ b view arrivals count state s t level fits setting after_boot stands opens. takes_stretches b view arrivals count state s t fits setting after_boot stands level opens
