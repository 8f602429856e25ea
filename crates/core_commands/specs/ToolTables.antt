-- What a program's tools answer.
use Rattle.std.specs.Prelude.{◌≡◌}
use Rattle.sloth_io.specs.Store.{Files}
use Rattle.command_line.specs.Tools.{ToolUse}
use Rattle.command_line.specs.declared.answer.ToolAnswer.{ToolAnswer}
use Rattle.command_line.specs.declared.answer.ToolAnswer.TheVariants as tool_answer

-- which answers the words of a tool have to the files
abbrev pub ToolTable : Type 1
ToolTable = Files → ToolUse → ToolAnswer → Type 0

-- a program without tools has one for all of them, whatever the files hold: that whose text is `usage`
abbrev pub LacksTools : ToolTable
LacksTools files u answer = answer ≡ tool_answer.NoTask
