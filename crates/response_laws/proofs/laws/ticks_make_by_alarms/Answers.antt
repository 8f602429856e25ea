use Rattle.response_laws.proofs.laws.ticks_make_by_alarms.Goals as goal
use Rattle.response_laws.proofs.Ticks.{ticks_make_by_alarms}

pub returns : goal.returns
returns c = ticks_make_by_alarms
