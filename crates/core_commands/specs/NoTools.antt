-- Which answer a program without tools has.
use Rattle.std.specs.Prelude.{ℕ, ◌⊎◌, List}
use Rattle.command_line.specs.Command.{Uses, IsCommand, NoCommand}
use Rattle.command_line.specs.Tools.{ToolUse}
use Rattle.core_commands.specs.Top.{World, IsUsageAnswer}
use Rattle.command_line.specs.declared.answer.Status.{Status}

-- the words are those of a tool, or of no command at all
abbrev pub NoOwnCommand : List (List ℕ) → Type 0
NoOwnCommand words = NoCommand words ⊎ ((u : ToolUse) × IsCommand words (Uses u))

-- The words are those of a tool, which the program has not: Usage.
abbrev pub HasNoToolAnswer : List (List ℕ) → World → World → Status → Type 0
HasNoToolAnswer words old new answer = (u : ToolUse) → IsCommand words (Uses u) → IsUsageAnswer old new answer
