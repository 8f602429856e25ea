use Rattle.sloth_commands.proofs.BuiltRuns.{built-keep-bounds}
use Rattle.sloth_commands.proofs.laws.built_runs_keep_blocking_bounds.Goals as goal

pub returns : goal.returns
returns c = built-keep-bounds
