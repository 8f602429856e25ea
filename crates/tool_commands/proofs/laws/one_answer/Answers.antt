use Rattle.tool_commands.proofs.OneAnswer.{one_answer}
use Rattle.tool_commands.proofs.laws.one_answer.Goals as goal

pub returns : goal.returns
returns c = one_answer
