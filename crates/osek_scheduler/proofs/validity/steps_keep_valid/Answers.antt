use Rattle.osek_scheduler.proofs.validity.steps_keep_valid.Goals as goal
use Rattle.osek_scheduler.proofs.Facts.{facts}
use Rattle.osek_scheduler.proofs.Steps.{step_valid}

pub returns : goal.returns
returns c = λ config app event s next w step v. step_valid config app event s next (facts config app w) step v
