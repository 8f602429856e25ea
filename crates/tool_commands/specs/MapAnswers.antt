-- The answers of `map`.
use Rattle.std.specs.Prelude.{ℕ, List}
use Rattle.map_text.specs.MapText.{IsMapText}
use Rattle.tool_commands.specs.SourceAnswers.{IsSourceAnswer}
use Rattle.command_line.specs.declared.answer.ToolAnswer.{ToolAnswer}

-- the lines of what the image takes of memory, or the first refusal
abbrev pub IsMapAnswer : List ℕ → List ℕ → ToolAnswer → Type 0
IsMapAnswer oil src answer = IsSourceAnswer (λ text. IsMapText oil src text) oil src answer
