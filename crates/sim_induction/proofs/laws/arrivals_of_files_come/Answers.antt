use Rattle.sim_induction.proofs.laws.arrivals_of_files_come.Goals as goal
use Rattle.sim_induction.proofs.Coming.{arrivals_come}

pub returns : goal.returns
returns c = λ owners arrivals are. arrivals_come owners arrivals are
