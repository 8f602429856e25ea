-- Texts that are refused before the rules of task code have the same answer by `why` of their labels as by `why`.
use Rattle.std.proofs.Common.{◌≡◌, ℕ, List}
use Rattle.sloth_base.specs.declared.refusal.Refusal.{Refusal}
use Rattle.sloth_source.specs.RankedTexts.{EarlyRefusal}
use Rattle.sloth_source.proofs.RankedTexts.{early_first}
use Rattle.sloth_source.proofs.Unique.{never_both}
use Rattle.command_line.specs.declared.answer.ToolAnswer.{ToolAnswer}
use Rattle.command_line.specs.declared.answer.ToolAnswer.TheVariants as answer
use Rattle.command_line.specs.declared.answer.Explanation.{Explanation}
use Rattle.command_line.specs.declared.answer.Explanation.TheVariants as explanation
use Rattle.tool_commands.specs.WhyAnswers.{IsExplained, IsWhyAnswer}
use Rattle.tool_commands.specs.LabelsAnswers.{AreRefusedEarly, IsLabelsAnswer, IsLabelsExplained}

explained_as : (oil src : List ℕ) → AreRefusedEarly oil src → (kind : Explanation) (text : List ℕ) → kind ≡ explanation.Refusal → IsExplained oil src text
    → IsLabelsExplained oil src kind text
explained_as oil src early explanation.Refusal text e h = (h, early)
explained_as oil src early explanation.NoHolds text e h = absurd (let wrong : explanation.NoHolds ≡ explanation.Refusal = e in cc)
explained_as oil src early explanation.BadTrace text e h = absurd (let wrong : explanation.BadTrace ≡ explanation.Refusal = e in cc)

pub as_labels : (oil src : List ℕ) (r : Refusal) → EarlyRefusal oil src r → (a : ToolAnswer) → IsWhyAnswer oil src a → IsLabelsAnswer oil src a
as_labels oil src r early (answer.Done outcome) h =
    let accepted = h.0 in absurd (never_both oil src accepted.0 accepted.1 r accepted.2 (early_first oil src r early))
as_labels oil src r early (answer.Explained kind text) h = explained_as oil src (r, early) kind text h.0 h.1
as_labels oil src r early (answer.Refused refusal) h = absurd h
as_labels oil src r early (answer.Stopped pc stop) h = absurd h
as_labels oil src r early (answer.NotAnImage fault) h = absurd h
as_labels oil src r early (answer.NotAnElf fault) h = absurd h
as_labels oil src r early (answer.BadTrace fault) h = absurd h
as_labels oil src r early answer.NoHolds h = absurd h
as_labels oil src r early (answer.Unmet lines) h = absurd h
as_labels oil src r early answer.NoTask h = absurd h
