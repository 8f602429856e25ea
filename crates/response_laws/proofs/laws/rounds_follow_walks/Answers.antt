use Rattle.response_laws.proofs.laws.rounds_follow_walks.Goals as goal
use Rattle.response_laws.proofs.Walked.{rounds_follow_walks}

pub returns : goal.returns
returns c = rounds_follow_walks
