use Rattle.sloth_commands.proofs.BuiltResponses.{built-keep-responses}
use Rattle.sloth_commands.proofs.laws.built_runs_keep_responses.Goals as goal

pub returns : goal.returns
returns c = built-keep-responses
