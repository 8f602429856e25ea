-- The answers of `shares`.
use Rattle.std.specs.Prelude.{ℕ, List}
use Rattle.shares_text.specs.SharesText.{IsSharesText}
use Rattle.tool_commands.specs.SourceAnswers.{IsSourceAnswer}
use Rattle.command_line.specs.declared.answer.ToolAnswer.{ToolAnswer}

-- the lines of what keeps accesses to data apart, or the first refusal
abbrev pub IsSharesAnswer : List ℕ → List ℕ → ToolAnswer → Type 0
IsSharesAnswer oil src answer = IsSourceAnswer (λ text. IsSharesText oil src text) oil src answer
