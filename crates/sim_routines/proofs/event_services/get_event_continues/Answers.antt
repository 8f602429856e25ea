use Rattle.sim_routines.proofs.event_services.get_event_continues.Goals as goal
use Rattle.sim_routines.proofs.EventTold.{tells_events}

pub returns : goal.returns
returns c = λ b state s t own object touched end fits may effect. tells_events b state s t own object touched end fits may effect
