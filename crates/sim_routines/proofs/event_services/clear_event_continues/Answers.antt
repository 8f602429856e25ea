use Rattle.sim_routines.proofs.event_services.clear_event_continues.Goals as goal
use Rattle.sim_routines.proofs.Cleared.{clears}

pub returns : goal.returns
returns c = λ b state s t own object touched end fits may effect. clears b state s t own object touched end fits may effect
