-- The answers of `losses`.
use Rattle.std.specs.Prelude.{ℕ, ◌≡◌, List, []}
use Rattle.losses_text.specs.Losses.{IsLossesText}
use Rattle.run_inputs.specs.Inputs.{IsRefusal}
use Rattle.command_line.specs.declared.answer.ToolAnswer.{ToolAnswer}
use Rattle.command_line.specs.declared.answer.ToolAnswer.TheVariants as answer

-- `losses`: what a run of the texts asks of tasks and counters, and what of it is lost; or the first refusal of the texts
abbrev pub IsLossesAnswer : (oil src arr : List ℕ) (n : ℕ) → ToolAnswer → Type 0
IsLossesAnswer oil src arr n (answer.Done outcome) = IsLossesText oil src arr n outcome.text × (outcome.file ≡ [])
IsLossesAnswer oil src arr n (answer.Refused refusal) = IsRefusal oil src arr refusal
IsLossesAnswer oil src arr n (answer.Stopped pc stop) = ⊥
IsLossesAnswer oil src arr n (answer.NotAnImage fault) = ⊥
IsLossesAnswer oil src arr n (answer.NotAnElf fault) = ⊥
IsLossesAnswer oil src arr n (answer.BadTrace fault) = ⊥
IsLossesAnswer oil src arr n answer.NoHolds = ⊥
IsLossesAnswer oil src arr n (answer.Unmet lines) = ⊥
IsLossesAnswer oil src arr n (answer.Explained kind lines) = ⊥
IsLossesAnswer oil src arr n answer.NoTask = ⊥
