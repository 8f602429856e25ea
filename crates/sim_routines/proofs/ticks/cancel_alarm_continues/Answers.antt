use Rattle.sim_routines.proofs.ticks.cancel_alarm_continues.Goals as goal
use Rattle.sim_routines.proofs.AlarmServing.{cancels}

pub returns : goal.returns
returns c = λ b state s t own alarm touched end fits may effect. cancels b state s t own alarm touched end fits may effect
