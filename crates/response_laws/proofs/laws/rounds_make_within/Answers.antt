use Rattle.response_laws.proofs.laws.rounds_make_within.Goals as goal
use Rattle.response_laws.proofs.RoundEnds.{rounds_make_within}

pub returns : goal.returns
returns c = rounds_make_within
