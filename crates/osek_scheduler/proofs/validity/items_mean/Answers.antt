use Rattle.osek_scheduler.proofs.validity.items_mean.Goals as goal
use Rattle.osek_scheduler.proofs.Reached.{items_mean}

pub returns : goal.returns
returns c = items_mean
