use Rattle.osek_blocking.proofs.KeptBounds.{keeps_bounds}
use Rattle.osek_blocking.proofs.bound_laws.runs_keep_bounds.Goals as goal

pub returns : goal.returns
returns c = keeps_bounds
