use Rattle.sim_routines.proofs.schedule_gives_way.Goals as goal
use Rattle.sim_routines.proofs.GivingWay.{gives_way}

pub returns : goal.returns
returns c = λ b state s t own object offset touched end fits may way effect. gives_way b state s t own object offset touched end fits may way effect
