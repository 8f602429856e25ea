use Rattle.sim_routines.proofs.event_services.wait_event_answers.Goals as goal
use Rattle.sim_routines.proofs.Waiting.{wait_answers}

pub returns : goal.returns
returns c = λ b state s t own object place kept touched end fits may effect. wait_answers b state s t own object place kept touched end fits may effect
