use Rattle.osek_scheduler.proofs.validity.opening_is_valid.Goals as goal
use Rattle.osek_scheduler.proofs.Steps.{opening_valid}
use Rattle.osek_scheduler.proofs.Apart.{opening_apart}

pub returns : goal.returns
returns c = λ config app. (opening_valid config app, opening_apart config app)
