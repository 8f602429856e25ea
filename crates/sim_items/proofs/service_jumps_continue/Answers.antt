use Rattle.sim_items.proofs.service_jumps_continue.Goals as goal
use Rattle.sim_items.proofs.Jump.{jump_outside}

pub returns : goal.returns
returns c = λ b view arrivals count state s t here at placed jump. jump_outside b view arrivals count state s here t at placed jump
