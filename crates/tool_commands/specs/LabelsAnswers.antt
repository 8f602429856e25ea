-- The answers of `why` of the lists of labels.
use Rattle.std.specs.Prelude.{ℕ, ◌≡◌, List, [], codes}
use Rattle.tool_commands.specs.WhyAnswers.{IsExplained}
use Rattle.sloth_base.specs.declared.refusal.Refusal.{Refusal}
use Rattle.sloth_source.specs.RankedTexts.{EarlyRefusal}
use Rattle.holds_infer.specs.LabelAnswers.{IsLabelAnswer}
use Rattle.holds_infer.specs.declared.label_answers.LabelAnswer.TheVariants as label
use Rattle.command_line.specs.declared.answer.ToolAnswer.{ToolAnswer}
use Rattle.command_line.specs.declared.answer.ToolAnswer.TheVariants as answer
use Rattle.command_line.specs.declared.answer.Explanation.{Explanation}
use Rattle.command_line.specs.declared.answer.Explanation.TheVariants as explanation

-- that the texts have a refusal before the rules of task code
abbrev pub AreRefusedEarly : (oil src : List ℕ) → Type 0
AreRefusedEarly oil src = (refusal : Refusal) × EarlyRefusal oil src refusal

-- an explanation: why no lists keep the rules, or what stands behind the first refusal, which comes before the rules of task code
abbrev pub IsLabelsExplained : (oil src : List ℕ) → Explanation → (text : List ℕ) → Type 0
IsLabelsExplained oil src explanation.NoHolds text = IsLabelAnswer oil src (label.NoLists text)
IsLabelsExplained oil src explanation.Refusal text = IsExplained oil src text × AreRefusedEarly oil src
IsLabelsExplained oil src explanation.BadTrace text = ⊥

-- that lists keep the rules, or why none do; or the first refusal before the rules of task code, with what stands behind it
abbrev pub IsLabelsAnswer : (oil src : List ℕ) → ToolAnswer → Type 0
IsLabelsAnswer oil src (answer.Done outcome) = IsLabelAnswer oil src label.Filled × (outcome.file ≡ []) × (outcome.text ≡ codes "filled\n")
IsLabelsAnswer oil src (answer.Explained kind text) = IsLabelsExplained oil src kind text
IsLabelsAnswer oil src (answer.Refused refusal) = ⊥
IsLabelsAnswer oil src (answer.Stopped pc stop) = ⊥
IsLabelsAnswer oil src (answer.NotAnImage fault) = ⊥
IsLabelsAnswer oil src (answer.NotAnElf fault) = ⊥
IsLabelsAnswer oil src (answer.BadTrace fault) = ⊥
IsLabelsAnswer oil src answer.NoHolds = ⊥
IsLabelsAnswer oil src (answer.Unmet lines) = ⊥
IsLabelsAnswer oil src answer.NoTask = ⊥
