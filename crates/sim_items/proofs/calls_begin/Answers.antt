use Rattle.sim_items.proofs.calls_begin.Goals as goal
use Rattle.sim_items.proofs.Call.{call_begins}

pub returns : goal.returns
returns c = λ b view arrivals count state s t callee here at call chain. call_begins b view arrivals count state s here t at callee call chain
