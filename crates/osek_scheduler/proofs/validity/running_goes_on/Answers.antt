use Rattle.osek_scheduler.proofs.validity.running_goes_on.Goals as goal
use Rattle.osek_scheduler.proofs.Facts.{facts}
use Rattle.osek_scheduler.proofs.Meaning.{goes}

pub returns : goal.returns
returns c = λ config app s t w v a booted top active free. goes config app s t (facts config app w) v a booted top active free
