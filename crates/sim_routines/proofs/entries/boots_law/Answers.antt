use Rattle.sim_routines.proofs.entries.boots_law.Goals as goal
use Rattle.sim_routines.proofs.Boot as boot

pub returns : goal.returns
returns c = λ b image levels end fits is ranks effect. boot.boots_law b image levels end fits is ranks effect
