-- The answers of `symbols`.
use Rattle.std.specs.Prelude.{ℕ, List}
use Rattle.symbol_build.specs.SymbolFiles.{IsSymbolFile}
use Rattle.tool_commands.specs.SourceAnswers.{IsFileAnswer}
use Rattle.command_line.specs.declared.answer.ToolAnswer.{ToolAnswer}

-- the file that debuggers read of an image of the texts, the second of which has this name; or the first refusal
abbrev pub IsSymbolsAnswer : (oil src name : List ℕ) → ToolAnswer → Type 0
IsSymbolsAnswer oil src name answer = IsFileAnswer (λ file. IsSymbolFile oil src name file) oil src answer
