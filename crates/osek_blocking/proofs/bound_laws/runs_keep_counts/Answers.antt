use Rattle.osek_blocking.proofs.Counts.{keeps_counts}
use Rattle.osek_blocking.proofs.KeptBounds.{keeps_bounds}
use Rattle.osek_blocking.proofs.bound_laws.runs_keep_counts.Goals as goal

pub returns : goal.returns
returns c = λ config app events w run paced. keeps_counts config app events (keeps_bounds config app events w run) paced
