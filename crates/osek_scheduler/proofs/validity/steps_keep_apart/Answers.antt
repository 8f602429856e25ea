use Rattle.osek_scheduler.proofs.validity.steps_keep_apart.Goals as goal
use Rattle.osek_scheduler.proofs.ApartSteps.{step_apart}

pub returns : goal.returns
returns c = λ config app event s next step count a. step_apart config app event s next step count a
