use Rattle.sim_routines.proofs.activate_task_stretches.Goals as goal
use Rattle.sim_routines.proofs.GoingOnStretch.{activates_stretches}

pub returns : goal.returns
returns c = λ b view arrivals count state s t fits setting after_boot stands opens. activates_stretches b view arrivals count state s t fits setting after_boot stands opens
