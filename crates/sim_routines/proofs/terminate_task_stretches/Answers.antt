use Rattle.sim_routines.proofs.terminate_task_stretches.Goals as goal
use Rattle.sim_routines.proofs.TerminateStretch.{terminate_stretches}

pub returns : goal.returns
returns c = λ b view arrivals count state s t fits setting after_boot stands opens. terminate_stretches b view arrivals count state s t fits setting after_boot stands opens
