-- The answers of `bounds`, and of `bounds` with `latency` or `counts`.
use Rattle.std.specs.Prelude.{ℕ, List}
use Rattle.bounds_text.specs.BoundsText.{IsBoundsText}
use Rattle.bounds_text.specs.Latency.{IsLatencyText}
use Rattle.bounds_text.specs.LowerCounts.{IsLowerCountsText}
use Rattle.tool_commands.specs.SourceAnswers.{IsSourceAnswer}
use Rattle.command_line.specs.declared.answer.ToolAnswer.{ToolAnswer}

-- the lines of the bounds of all tasks, or the first refusal
abbrev pub IsBoundsAnswer : List ℕ → List ℕ → ToolAnswer → Type 0
IsBoundsAnswer oil src answer = IsSourceAnswer (λ text. IsBoundsText oil src text) oil src answer

-- the lines of the bounds of all tasks and that of the latency of the task of highest priority, or the first refusal
abbrev pub IsLatencyAnswer : List ℕ → List ℕ → ToolAnswer → Type 0
IsLatencyAnswer oil src answer = IsSourceAnswer (λ text. IsLatencyText oil src text) oil src answer

-- the lines of the counts of lower tasks in front of each task's entry, or the first refusal
abbrev pub IsLowerCountsAnswer : List ℕ → List ℕ → ToolAnswer → Type 0
IsLowerCountsAnswer oil src answer = IsSourceAnswer (λ text. IsLowerCountsText oil src text) oil src answer
