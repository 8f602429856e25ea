use Rattle.response_laws.proofs.laws.arrivals_are_served.Goals as goal
use Rattle.response_laws.proofs.Undue.{arrivals_are_served}

pub returns : goal.returns
returns c = arrivals_are_served
