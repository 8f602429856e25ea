use Rattle.run_counts.proofs.Runs.{keeps_blocking_bounds}
use Rattle.run_counts.proofs.blocking_laws.sound_runs_keep_blocking_bounds.Goals as goal

pub returns : goal.returns
returns c = keeps_blocking_bounds
