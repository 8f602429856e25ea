use Rattle.sim_routines.proofs.release_resource_stretches.Goals as goal
use Rattle.sim_routines.proofs.GoingOnStretch.{releases_stretches}

pub returns : goal.returns
returns c = λ b view arrivals count state s t fits setting after_boot stands opens. releases_stretches b view arrivals count state s t fits setting after_boot stands opens
