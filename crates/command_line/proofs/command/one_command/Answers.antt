use Rattle.command_line.proofs.Commands.{one-command}
use Rattle.command_line.proofs.command.one_command.Goals as goal

pub returns : goal.returns
returns c = one-command
