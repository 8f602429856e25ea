use Rattle.sim_relation.proofs.starts_stand.Goals as goal
use Rattle.sim_relation.proofs.Starting.{starts_stand}

pub returns : goal.returns
returns c = λ b state fits start. starts_stand b state fits start
