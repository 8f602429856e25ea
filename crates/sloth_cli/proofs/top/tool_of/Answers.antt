use Rattle.command_line.specs.Command.{Uses}
use Rattle.sloth_cli.proofs.top.tool_of.Goals as goal

pub returns-in_default-clause-none : goal.returns-in_default-clause-none
returns-in_default-clause-none c used is = c.in_default.ensures.none (Uses used) is
