use Rattle.sim_induction.proofs.laws.stretches_are_traced.Goals as goal
use Rattle.sim_induction.proofs.Traces.{is_traced}

pub returns : goal.returns
returns c = λ arrivals up count done steps before from. is_traced arrivals up count done steps before from
