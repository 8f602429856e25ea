use Rattle.run_responses.proofs.laws.images_meet_bounds.Goals as goal
use Rattle.run_responses.proofs.Meeting.{images_meet_bounds}

pub returns : goal.returns
returns c = images_meet_bounds
