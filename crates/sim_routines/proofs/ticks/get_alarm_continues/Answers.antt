use Rattle.sim_routines.proofs.ticks.get_alarm_continues.Goals as goal
use Rattle.sim_routines.proofs.AlarmServing.{tells_left}

pub returns : goal.returns
returns c = λ b state s t own alarm touched end fits may effect. tells_left b state s t own alarm touched end fits may effect
