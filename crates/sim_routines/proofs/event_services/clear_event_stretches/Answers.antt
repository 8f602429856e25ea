use Rattle.sim_routines.proofs.event_services.clear_event_stretches.Goals as goal
use Rattle.sim_routines.proofs.Stretches.{clears_stretches}

pub returns : goal.returns
returns c = λ b view arrivals count state s t fits setting after_boot stands opens. clears_stretches b view arrivals count state s t fits setting after_boot stands opens
