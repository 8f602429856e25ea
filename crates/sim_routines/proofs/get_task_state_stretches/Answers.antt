use Rattle.sim_routines.proofs.get_task_state_stretches.Goals as goal
use Rattle.sim_routines.proofs.GoingOnStretch.{states_stretches}

pub returns : goal.returns
returns c = λ b view arrivals count state s t fits setting after_boot stands opens. states_stretches b view arrivals count state s t fits setting after_boot stands opens
