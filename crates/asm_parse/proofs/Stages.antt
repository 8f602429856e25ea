-- A stage is judged only where the stage before it has no fault.
use Rattle.std.proofs.Common.{inl, inr, ⊎_elim, List, ℕ}
use Rattle.sloth_base.specs.declared.config.Config.{Config}
use Rattle.sloth_base.specs.declared.refusal.Refusal.{Refusal}
use Rattle.sloth_base.specs.declared.refusal.BuildError.{BuildError}
use Rattle.sloth_base.specs.declared.refusal.BuildError.TheVariants.{Refused, Memory}
use Rattle.sloth_base.specs.Order.{NoFault, IsLeast, ErrorIs}
use Rattle.asm_lines.specs.Faults.{source_lines, SourceLinesFault}
use Rattle.asm_parse.specs.NameFaults.{NameFault}
use Rattle.asm_parse.specs.AppTexts.{SourceTextFault}

module _ (config : Config) (text : List ℕ) where
  pub earlier : (r : Refusal) → IsLeast (SourceLinesFault text) r → IsLeast (SourceTextFault config text) r
  earlier r l = record { is_fault = inl l.is_fault; is_least = λ s f. ⊎_elim (l.is_least s) (λ g. absurd (g.0 r l.is_fault)) f }

  pub earlier_error : (e : BuildError) → ErrorIs (SourceLinesFault text) e → ErrorIs (SourceTextFault config text) e
  earlier_error (Refused r) l = earlier r l
  earlier_error Memory l = l

  pub later : (r : Refusal) → NoFault (SourceLinesFault text) → IsLeast (NameFault config (source_lines text)) r → IsLeast (SourceTextFault config text) r
  later r n l = record { is_fault = inr (n, l.is_fault); is_least = λ s f. ⊎_elim (λ g. absurd (n s g)) (λ g. l.is_least s g.1) f }

  pub none : NoFault (SourceLinesFault text) → NoFault (NameFault config (source_lines text)) → NoFault (SourceTextFault config text)
  none n m = λ r f. ⊎_elim (n r) (λ g. m r g.1) f
