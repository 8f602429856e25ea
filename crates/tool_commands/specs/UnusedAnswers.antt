-- The answers of `unused`.
use Rattle.std.specs.Prelude.{ℕ, List}
use Rattle.shares_text.specs.UnusedText.{IsUnusedText}
use Rattle.tool_commands.specs.SourceAnswers.{IsSourceAnswer}
use Rattle.command_line.specs.declared.answer.ToolAnswer.{ToolAnswer}

-- the lines of what nothing uses, or the first refusal
abbrev pub IsUnusedAnswer : List ℕ → List ℕ → ToolAnswer → Type 0
IsUnusedAnswer oil src answer = IsSourceAnswer (λ text. IsUnusedText oil src text) oil src answer
