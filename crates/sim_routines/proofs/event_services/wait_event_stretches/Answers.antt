use Rattle.sim_routines.proofs.event_services.wait_event_stretches.Goals as goal
use Rattle.sim_routines.proofs.WaitStretch.{wait_stretches}

pub returns : goal.returns
returns c = λ b view arrivals count state s t fits setting after_boot stands opens. wait_stretches b view arrivals count state s t fits setting after_boot stands opens
