use Rattle.shared_stacks.proofs.steps_keep_owing.Goals as goal
use Rattle.osek_scheduler.proofs.Facts.{facts}
use Rattle.shared_stacks.proofs.Owing.{step_owes}

pub returns : goal.returns
returns c = λ config app event s next w step v owes. step_owes app config (facts config app w) event s next step v owes
