use Rattle.sim_routines.proofs.way_back_stretches.Goals as goal
use Rattle.sim_routines.proofs.ScheduleStretch.{back_stretches}

pub returns : goal.returns
returns c = λ b view arrivals count state s t fits setting after_boot stands opens. back_stretches b view arrivals count state s t fits setting after_boot stands opens
