use Rattle.osek_scheduler.proofs.validity.runs_never_stick.Goals as goal
use Rattle.osek_scheduler.proofs.Facts.{facts}
use Rattle.osek_scheduler.proofs.Progress.{never_sticks}

pub returns : goal.returns
returns c = λ config app s w v a. never_sticks config s app (facts config app w) v a
