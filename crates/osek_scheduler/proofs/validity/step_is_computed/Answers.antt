use Rattle.osek_scheduler.proofs.validity.step_is_computed.Goals as goal
use Rattle.osek_scheduler.proofs.Next.{step_of, step_is}

pub returns : goal.returns
returns c = λ config app event s next. (step_of config app s next event, step_is config app s next event)
