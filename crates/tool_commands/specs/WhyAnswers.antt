-- The answers of `why`.
use Rattle.std.specs.Prelude.{ℕ, ◌≡◌, ◌++◌, List, [], codes, Some, None}
use Rattle.sloth_base.specs.declared.refusal.Refusal.{Refusal}
use Rattle.sloth_source.specs.Texts.{FirstRefusal}
use Rattle.bounds_text.specs.TaskBound.{IsBoundText}
use Rattle.command_line.specs.LastLine.{refusal_line}
use Rattle.why_text.specs.WhyLines.{AreAcceptedTexts, IsWhy}
use Rattle.why_text.specs.declared.explaining.Why.TheVariants as why
use Rattle.command_line.specs.declared.answer.ToolAnswer.{ToolAnswer}
use Rattle.command_line.specs.declared.answer.ToolAnswer.TheVariants as answer
use Rattle.command_line.specs.declared.answer.Explanation.TheVariants as explanation

-- the line of the first refusal, and the lines behind it
pub record IsExplained (oil src text : List ℕ) : Type 0 where
  pub refusal : Refusal
  pub lines : List ℕ
  pub is_why : IsWhy oil src (why.Refused refusal lines)
  pub is : text ≡ refusal_line refusal ++ lines

-- that the texts are accepted, or their first refusal with what stands behind it
abbrev pub IsWhyAnswer : List ℕ → List ℕ → ToolAnswer → Type 0
IsWhyAnswer oil src (answer.Done outcome) = AreAcceptedTexts oil src × (outcome.file ≡ []) × (outcome.text ≡ codes "accepted\n")
IsWhyAnswer oil src (answer.Explained kind text) = (kind ≡ explanation.Refusal) × IsExplained oil src text
IsWhyAnswer oil src (answer.Refused refusal) = ⊥
IsWhyAnswer oil src (answer.Stopped pc stop) = ⊥
IsWhyAnswer oil src (answer.NotAnImage fault) = ⊥
IsWhyAnswer oil src (answer.NotAnElf fault) = ⊥
IsWhyAnswer oil src (answer.BadTrace fault) = ⊥
IsWhyAnswer oil src answer.NoHolds = ⊥
IsWhyAnswer oil src (answer.Unmet lines) = ⊥
IsWhyAnswer oil src answer.NoTask = ⊥

-- `why` of one task: its bound, and of what that is made; the first refusal; or no task has the name
abbrev pub IsTaskBoundAnswer : (oil src name : List ℕ) → ToolAnswer → Type 0
IsTaskBoundAnswer oil src name (answer.Done outcome) = IsBoundText oil src name (Some outcome.text) × (outcome.file ≡ [])
IsTaskBoundAnswer oil src name (answer.Refused refusal) = FirstRefusal oil src refusal
IsTaskBoundAnswer oil src name answer.NoTask = IsBoundText oil src name None
IsTaskBoundAnswer oil src name (answer.Stopped pc stop) = ⊥
IsTaskBoundAnswer oil src name (answer.NotAnImage fault) = ⊥
IsTaskBoundAnswer oil src name (answer.NotAnElf fault) = ⊥
IsTaskBoundAnswer oil src name (answer.BadTrace fault) = ⊥
IsTaskBoundAnswer oil src name answer.NoHolds = ⊥
IsTaskBoundAnswer oil src name (answer.Unmet lines) = ⊥
IsTaskBoundAnswer oil src name (answer.Explained kind lines) = ⊥
