use Rattle.sim_laws.proofs.steady_stays.Goals as goal
use Rattle.sim_laws.proofs.Steady as steady

pub returns : goal.returns
returns c = λ config app well what s next h k. steady.steady_stays config app well what s next h k
