use Rattle.std.proofs.Common.{◌≡◌, drop}
use Rattle.command_line.specs.Tools.{tools, tool_among}
use Rattle.command_line.proofs.tool.tool_called.Given as goal

abbrev pub invariant-loop-tool : goal.invariant-loop-tool
invariant-loop-tool l = tool_among (drop l.tool-index l.tool-items) l.word l.count l.asks ≡ tool_among tools l.word l.count l.asks
