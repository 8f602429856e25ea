use Rattle.core_commands.proofs.ToolReads.{AreFetched}
use Rattle.sloth_commands.proofs.tool_command.fetch_inputs.Given as goal

abbrev pub invariant-loop-name : goal.invariant-loop-name
invariant-loop-name g l = AreFetched (g.F.Store.seen l.fn.files) (g.F.Store.seen l.files) l.names l.name-index l.inputs.items
