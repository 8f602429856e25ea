-- Each text has a fault, breaks the grammar, or has a tree.
use Rattle.std.proofs.Common.{◌≡◌, ℕ, Bool, true, false, List, [], ◌∷◌, Option, Some, None, refl, ap, ◌⊎◌, inl, inr, ⊎_elim}
use Rattle.sloth_base.specs.declared.refusal.Refusal.{Refusal}
use Rattle.sloth_base.specs.declared.refusal.Part.TheVariants.{Oil}
use Rattle.sloth_base.specs.declared.refusal.Code.TheVariants as code
use Rattle.sloth_base.specs.Order.{NoFault}
use Rattle.oil_parse.specs.Tokens.{Lexeme, TextFault}
use Rattle.oil_parse.proofs.Cuts.{text_judged, tokens_some}
use Rattle.oil_parse.specs.declared.machine.Expect.{Expect}
use Rattle.oil_parse.specs.declared.machine.Expect.TheVariants.{Start, Done}
use Rattle.oil_parse.specs.declared.tree.OilTree.{OilTree}
use Rattle.oil_parse.specs.Shapes.{shape}
use Rattle.oil_parse.specs.Steps.{next}
use Rattle.oil_parse.specs.Machine.{too_big}
use Rattle.oil_parse.specs.Text.{HasTree, HasGrammarFault}
use Rattle.oil_parse.proofs.Steps.{step, TooBig, MachineFault}
use Rattle.oil_parse.proofs.Sound.{file_read}
use Rattle.oil_parse.proofs.Faults.{FaultBy, same_faults}
use Rattle.oil_parse.proofs.Loop.{big_is, small_is}

done_or_not : (e : Expect) → (e ≡ Done) ⊎ (e ≡ Done → ⊥)
done_or_not Done = inl refl
done_or_not _ = inr (λ h. cc)

abbrev Judged : Option Expect → (Refusal → Type 0) → List Lexeme → Type 0
Judged o F ts = ((r : Refusal) × F r) ⊎ (NoFault F × (step o ts ≡ Some Done))

machine_judged : (ts : List Lexeme) (e : Expect) (n : ℕ) → Judged (Some e) (MachineFault e n ts) ts
machine_judged [] e n =
    ⊎_elim (λ d. inr ((λ r f. f.0 d), ap Some d)) (λ u. inl (record { part = Oil; line = n; code = code.O6 }, (u, refl))) (done_or_not e)
machine_judged (t ∷ ts) e n =
    elim (next e (shape t)) as (λ o. Judged o (FaultBy o e t ts) ts) [
      | None ↦ inl (record { part = Oil; line = t.line; code = code.O5 }, refl)
      | Some e' ↦ big_or_not e' (too_big e (shape t)) refl (machine_judged ts e' t.line)
    ]
  where
    big_or_not : (e' : Expect) (b : Bool) → too_big e (shape t) ≡ b → Judged (Some e') (MachineFault e' t.line ts) ts
        → Judged (Some e') (λ r. TooBig e (shape t) t r ⊎ MachineFault e' t.line ts r) ts
    big_or_not e' true h rest = let m : Refusal = record { part = Oil; line = t.line; code = code.O4 } in inl (m, inl ((big_is e (shape t) t m h).1 refl))
    big_or_not e' false h (inl f) = inl (f.0, inr f.1)
    big_or_not e' false h (inr d) = inr ((λ r f. ⊎_elim (λ x. absurd (small_is e (shape t) t r h x)) (d.0 r) f), d.1)

pub judged : (text : List ℕ) → ((r : Refusal) × TextFault text r) ⊎ (((r : Refusal) × HasGrammarFault text r) ⊎ ((tree : OilTree) × HasTree text tree))
judged text = ⊎_elim inl (λ clean. inr (grammar_judged clean)) (text_judged text)
  where
    grammar_judged : NoFault (TextFault text) → ((r : Refusal) × HasGrammarFault text r) ⊎ ((tree : OilTree) × HasTree text tree)
    grammar_judged clean =
        let ts = tokens_some text in
        ⊎_elim
        (λ f. inl (f.0, record { tokens = ts.0; are_tokens = ts.1; no_text_fault = clean; fault = (same_faults ts.0 f.0).1 f.1 }))
        (λ d. let w = file_read ts.0 d.1 in inr (
          w.0,
          record {
            tokens = ts.0;
            are_tokens = ts.1;
            no_text_fault = clean;
            is_file = w.1;
            no_grammar_fault = λ r g. d.0 r ((same_faults ts.0 r).0 g);
          },
        ))
        (machine_judged ts.0 Start 1)
