use Rattle.response_laws.proofs.laws.periods_start_so.Goals as goal
use Rattle.response_laws.proofs.Lower.{periods_start_so}

pub returns : goal.returns
returns c = periods_start_so
