use Rattle.osek_scheduler.proofs.validity.tasks_are_tidy.Goals as goal
use Rattle.osek_scheduler.proofs.Facts.{facts}
use Rattle.osek_scheduler.proofs.Tidy.{tidy}

pub returns : goal.returns
returns c = λ config app s t w v lt. tidy config app (facts config app w) s t v lt
