-- The answers of `orti`.
use Rattle.std.specs.Prelude.{ℕ, List}
use Rattle.orti_text.specs.OrtiText.{IsOrtiText}
use Rattle.tool_commands.specs.SourceAnswers.{IsFileAnswer}
use Rattle.command_line.specs.declared.answer.ToolAnswer.{ToolAnswer}

-- the file by which debuggers find the objects of the kernel, or the first refusal
abbrev pub IsOrtiAnswer : (oil src : List ℕ) → ToolAnswer → Type 0
IsOrtiAnswer oil src answer = IsFileAnswer (λ file. IsOrtiText oil src file) oil src answer
