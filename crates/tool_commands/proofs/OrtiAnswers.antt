-- Texts have one answer of `orti`.
use Rattle.std.proofs.Common.{◌≡◌, ◌⊎◌, inl, inr, ◌∙◌, ℕ, List, refl, sym, ap}
use Rattle.sloth_base.specs.declared.refusal.Refusal.{Refusal}
use Rattle.sloth_source.specs.Texts.{FirstRefusal}
use Rattle.sloth_source.proofs.Refusals.{one_refusal}
use Rattle.sloth_source.proofs.Unique.{never_both}
use Rattle.orti_text.specs.OrtiText.{IsOrtiText}
use Rattle.orti_text.proofs.OneText.{one_text}
use Rattle.tool_commands.specs.OrtiAnswers.{IsOrtiAnswer}
use Rattle.command_line.specs.declared.answer.ToolAnswer.{ToolAnswer}
use Rattle.command_line.specs.declared.answer.ToolAnswer.TheVariants as answer
use Rattle.tool_commands.proofs.ElfAnswers.{Wrote, same-wrote}

module _ (oil src : List ℕ) where
  -- what an answer of `orti` is
  abbrev View : ToolAnswer → Type 0
  View a = Wrote (λ file. IsOrtiText oil src file) a ⊎ ((r : Refusal) × (a ≡ answer.Refused r) × FirstRefusal oil src r)

  view : (a : ToolAnswer) → IsOrtiAnswer oil src a → View a
  view (answer.Done outcome) h = inl (record { outcome = outcome; is = refl; file = h.0; text = h.1 })
  view (answer.Refused refusal) h = inr (refusal, refl, h)
  view (answer.Stopped pc stop) h = absurd h
  view (answer.NotAnImage fault) h = absurd h
  view (answer.NotAnElf fault) h = absurd h
  view (answer.BadTrace fault) h = absurd h
  view answer.NoHolds h = absurd h
  view (answer.Unmet lines) h = absurd h
  view (answer.Explained kind lines) h = absurd h
  view answer.NoTask h = absurd h

  accepted : (file : List ℕ) (r : Refusal) → IsOrtiText oil src file → FirstRefusal oil src r → ⊥
  accepted file r h refused = never_both oil src h.config h.app r h.accepted refused

  pub one_orti : (a b : ToolAnswer) → IsOrtiAnswer oil src a → IsOrtiAnswer oil src b → a ≡ b
  one_orti a b p q = by (view a p) (view b q)
    where
      by : View a → View b → a ≡ b
      by (inl w) (inl v) = same-wrote (λ file. IsOrtiText oil src file) (λ one other. one_text oil src one other) a b w v
      by (inl w) (inr v) = absurd (accepted w.outcome.file v.0 w.file v.2)
      by (inr w) (inl v) = absurd (accepted v.outcome.file w.0 v.file w.2)
      by (inr w) (inr v) = w.1 ∙ ap answer.Refused (one_refusal oil src w.0 v.0 w.2 v.2) ∙ sym v.1
