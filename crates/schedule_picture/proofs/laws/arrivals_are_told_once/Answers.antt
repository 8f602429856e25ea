use Rattle.schedule_picture.proofs.ToldOnce.{told_once}
use Rattle.schedule_picture.proofs.laws.arrivals_are_told_once.Goals as goal

pub returns : goal.returns
returns c = told_once
