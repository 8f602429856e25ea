use Rattle.command_line.proofs.ToolWords.{called, none-called}
use Rattle.command_line.proofs.tool.tool_named.Goals as goal

pub returns-clause-some : goal.returns-clause-some
returns-clause-some c = called c.tool_called.result c.args.word.now c.args.count c.args.asks c.tool_called.ensures

pub returns-clause-none : goal.returns-clause-none
returns-clause-none c = none-called c.tool_called.result c.args.word.now c.args.count c.args.asks c.tool_called.ensures
