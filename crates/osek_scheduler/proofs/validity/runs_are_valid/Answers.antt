use Rattle.osek_scheduler.proofs.validity.runs_are_valid.Goals as goal
use Rattle.osek_scheduler.specs.State.{opening}
use Rattle.osek_scheduler.proofs.Facts.{facts}
use Rattle.osek_scheduler.proofs.Reached.{run_valid}
use Rattle.osek_scheduler.proofs.Steps.{opening_valid}
use Rattle.osek_scheduler.proofs.Apart.{opening_apart}

pub returns : goal.returns
returns c = λ config app events end w leads. run_valid config app (facts config app w) events (opening config app) end leads (opening_valid config app) (opening_apart config app)
