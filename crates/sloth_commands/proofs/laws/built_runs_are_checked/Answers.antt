use Rattle.sloth_commands.proofs.BuiltRuns.{built-are-checked}
use Rattle.sloth_commands.proofs.laws.built_runs_are_checked.Goals as goal

pub returns : goal.returns
returns c = built-are-checked
