use Rattle.response_laws.proofs.laws.ticks_make_as_alarms_expire.Goals as goal
use Rattle.response_laws.proofs.Expiring.{ticks_make_as_alarms_expire}

pub returns : goal.returns
returns c = ticks_make_as_alarms_expire
