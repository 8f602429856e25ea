use Rattle.sim_laws.proofs.bounds_stay.Goals as goal
use Rattle.sim_laws.proofs.Bounded as bounded

pub returns : goal.returns
returns c = λ arrivals count state next seen e h. bounded.bounds_stay arrivals count state next seen e h
