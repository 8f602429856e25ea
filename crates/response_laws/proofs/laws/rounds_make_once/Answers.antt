use Rattle.response_laws.proofs.laws.rounds_make_once.Goals as goal
use Rattle.response_laws.proofs.Once.{rounds_make_once}

pub returns : goal.returns
returns c = rounds_make_once
