use Rattle.sim_routines.proofs.ticks.set_rel_alarm_continues.Goals as goal
use Rattle.sim_routines.proofs.AlarmServing.{sets_relative}

pub returns : goal.returns
returns c = λ b state s t own alarm touched end fits may effect. sets_relative b state s t own alarm touched end fits may effect
