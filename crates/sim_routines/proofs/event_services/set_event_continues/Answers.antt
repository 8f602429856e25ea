use Rattle.sim_routines.proofs.event_services.set_event_continues.Goals as goal
use Rattle.sim_routines.proofs.Setting.{sets_events}

pub returns : goal.returns
returns c = λ b state s t own object mask touched end fits may effect. sets_events b state s t own object mask touched end fits may effect
