use Rattle.response_laws.proofs.laws.ticks_end_in_time.Goals as goal
use Rattle.response_laws.proofs.Ticking.{ticks_end_in_time}

pub returns : goal.returns
returns c = ticks_end_in_time
