-- The answers of `infer`.
use Rattle.std.specs.Prelude.{ℕ, ◌≡◌, List, length}
use Rattle.sloth_source.specs.RankedTexts.{EarlyRefusal}
use Rattle.holds_infer.specs.FilledSource.{IsFilledSource, HasNoLists}
use Rattle.tool_commands.specs.Lines.{written_line}
use Rattle.command_line.specs.declared.answer.ToolAnswer.{ToolAnswer}
use Rattle.command_line.specs.declared.answer.ToolAnswer.TheVariants as answer

-- the source with the list of each label filled in, the first refusal before the rules of task code, or that no lists keep them
abbrev pub IsInferAnswer : List ℕ → List ℕ → ToolAnswer → Type 0
IsInferAnswer oil src (answer.Done outcome) = IsFilledSource oil src outcome.file × (outcome.text ≡ written_line (length outcome.file))
IsInferAnswer oil src (answer.Refused refusal) = EarlyRefusal oil src refusal
IsInferAnswer oil src answer.NoHolds = HasNoLists oil src
IsInferAnswer oil src (answer.Explained kind lines) = ⊥
IsInferAnswer oil src (answer.Stopped pc stop) = ⊥
IsInferAnswer oil src (answer.NotAnImage fault) = ⊥
IsInferAnswer oil src (answer.NotAnElf fault) = ⊥
IsInferAnswer oil src (answer.BadTrace fault) = ⊥
IsInferAnswer oil src (answer.Unmet lines) = ⊥
IsInferAnswer oil src answer.NoTask = ⊥
