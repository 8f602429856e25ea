use Rattle.debug_command.proofs.Ending.{closed_line}
use Rattle.debug_command.proofs.command.say.Goals as goal

pub returns-in-Ok-clause-ends : goal.returns-in-Ok-clause-ends
returns-in-Ok-clause-ends g c = closed_line _ _ _ _ _ _ c.in-Ok.ensures.ok c.close.ensures.ends
