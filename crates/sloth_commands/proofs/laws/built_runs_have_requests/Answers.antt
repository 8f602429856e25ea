use Rattle.sloth_commands.proofs.BuiltRuns.{built-have-requests}
use Rattle.sloth_commands.proofs.laws.built_runs_have_requests.Goals as goal

pub returns : goal.returns
returns c = built-have-requests
