use Rattle.sloth_commands.proofs.Printed.{runs_are_checked}
use Rattle.sloth_commands.proofs.laws.runs_are_checked.Goals as goal

pub returns : goal.returns
returns c = runs_are_checked
