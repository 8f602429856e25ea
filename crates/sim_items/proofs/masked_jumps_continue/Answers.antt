use Rattle.sim_items.proofs.masked_jumps_continue.Goals as goal
use Rattle.sim_items.proofs.MaskedJump.{masked_outside}

pub returns : goal.returns
returns c = λ b view arrivals count state s t here at placed jump. masked_outside b view arrivals count state s here t at placed jump
