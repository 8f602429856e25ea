use Rattle.response_laws.proofs.laws.arrivals_are_few.Goals as goal
use Rattle.response_laws.proofs.Windows.{arrivals_are_few}

pub returns : goal.returns
returns c = arrivals_are_few
