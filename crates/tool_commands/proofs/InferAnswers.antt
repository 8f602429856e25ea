-- Texts have one answer of `infer`.
use Rattle.std.proofs.Common.{◌≡◌, ◌∙◌, ℕ, List, refl, sym, ap, ◌⊎◌, inl, inr}
use Rattle.sloth_base.specs.declared.refusal.Refusal.{Refusal}
use Rattle.sloth_source.specs.RankedTexts.{EarlyRefusal}
use Rattle.sloth_source.proofs.RankedTexts.{one_early}
use Rattle.holds_infer.specs.FilledSource.{IsFilledSource, HasNoLists}
use Rattle.holds_infer.proofs.OneSource.{one_filled_source, filled_or_none, filled_or_refused, none_or_refused}
use Rattle.tool_commands.specs.InferAnswers.{IsInferAnswer}
use Rattle.command_line.specs.declared.answer.ToolAnswer.{ToolAnswer}
use Rattle.command_line.specs.declared.answer.ToolAnswer.TheVariants as answer
use Rattle.tool_commands.proofs.ElfAnswers.{Wrote, same-wrote}

-- the texts are refused
abbrev IsRefusedAnswer : List ℕ → List ℕ → ToolAnswer → Type 0
IsRefusedAnswer oil src a = (r : Refusal) × (a ≡ answer.Refused r) × EarlyRefusal oil src r

-- what an answer of `infer` is
abbrev InferView : List ℕ → List ℕ → ToolAnswer → Type 0
InferView oil src a = Wrote (IsFilledSource oil src) a ⊎ (IsRefusedAnswer oil src a ⊎ ((a ≡ answer.NoHolds) × HasNoLists oil src))

infer-view : (oil src : List ℕ) (a : ToolAnswer) → IsInferAnswer oil src a → InferView oil src a
infer-view oil src (answer.Done outcome) h = inl (record { outcome = outcome; is = refl; file = h.0; text = h.1 })
infer-view oil src (answer.Refused refusal) h = inr (inl (refusal, refl, h))
infer-view oil src answer.NoHolds h = inr (inr (refl, h))
infer-view oil src (answer.Explained kind lines) h = absurd h
infer-view oil src (answer.Stopped pc stop) h = absurd h
infer-view oil src (answer.NotAnImage fault) h = absurd h
infer-view oil src (answer.NotAnElf fault) h = absurd h
infer-view oil src (answer.BadTrace fault) h = absurd h
infer-view oil src (answer.Unmet lines) h = absurd h
infer-view oil src answer.NoTask h = absurd h

pub infer-one : (oil src : List ℕ) (a b : ToolAnswer) → IsInferAnswer oil src a → IsInferAnswer oil src b → a ≡ b
infer-one oil src a b p q = by (infer-view oil src a p) (infer-view oil src b q)
  where
    by : InferView oil src a → InferView oil src b → a ≡ b
    by (inl w) (inl v) = same-wrote (IsFilledSource oil src) (one_filled_source oil src) a b w v
    by (inl w) (inr (inl v)) = absurd (filled_or_refused oil src w.outcome.file v.0 w.file v.2)
    by (inl w) (inr (inr v)) = absurd (filled_or_none oil src w.outcome.file w.file v.1)
    by (inr (inl w)) (inl v) = absurd (filled_or_refused oil src v.outcome.file w.0 v.file w.2)
    by (inr (inl w)) (inr (inl v)) = w.1 ∙ ap answer.Refused (one_early oil src w.0 v.0 w.2 v.2) ∙ sym v.1
    by (inr (inl w)) (inr (inr v)) = absurd (none_or_refused oil src w.0 v.1 w.2)
    by (inr (inr w)) (inl v) = absurd (filled_or_none oil src v.outcome.file v.file w.1)
    by (inr (inr w)) (inr (inl v)) = absurd (none_or_refused oil src v.0 w.1 v.2)
    by (inr (inr w)) (inr (inr v)) = w.0 ∙ sym v.0
