use Rattle.sim_routines.proofs.chain_task_stretches.Goals as goal
use Rattle.sim_routines.proofs.GoingOnStretch.{chain_stretches}

pub returns : goal.returns
returns c = λ b view arrivals count state s t fits setting after_boot stands opens. chain_stretches b view arrivals count state s t fits setting after_boot stands opens
