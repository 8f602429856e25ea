use Rattle.sim_items.proofs.calls_continue.Goals as goal
use Rattle.sim_items.proofs.Call.{call_goes_on}

pub returns : goal.returns
returns c = λ b view arrivals count state s t here at call. call_goes_on b view arrivals count state s here t at call
