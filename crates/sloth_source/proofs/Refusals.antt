-- Texts have one refusal at most.
use Rattle.std.proofs.Common.{◌≡◌, ℕ, List, inl, inr, subst}
use Rattle.sloth_base.specs.declared.config.Config.{Config}
use Rattle.sloth_base.specs.declared.app.App.{App}
use Rattle.sloth_base.specs.declared.refusal.Refusal.{Refusal}
use Rattle.sloth_base.specs.declared.refusal.Part.TheVariants.{Oil, Src}
use Rattle.sloth_base.specs.Order.{IsLeast, NoFault}
use Rattle.oil_parse.specs.Tokens.{TextFault}
use Rattle.oil_parse.specs.declared.tree.OilTree.{OilTree}
use Rattle.oil_parse.specs.Text.{HasGrammarFault}
use Rattle.oil_parse.proofs.Texts.{one_tree, not_both}
use Rattle.oil_rules.specs.ModelFaults.{ModelFault}
use Rattle.code_rules.specs.WellFormed.{CycleFault, RuleFault}
use Rattle.asm_parse.specs.AppTexts.{SourceTextFault}
use Rattle.sloth_source.specs.OilText.{OilRefusal}
use Rattle.sloth_source.specs.SourceText.{HasApp, SourceRefusal}
use Rattle.sloth_source.specs.Texts.{FirstRefusal}
use Rattle.sloth_source.proofs.Least.{one_least}
use Rattle.sloth_source.proofs.OilParts.{of_text, of_grammar, of_tree}
use Rattle.sloth_source.proofs.SourceParts.{of_source, of_cycle, of_rule}
use Rattle.sloth_source.proofs.Readings.{one_configuration}
use Rattle.sloth_source.proofs.Unique.{one_app, declared}

one_oil : (text : List ℕ) (r s : Refusal) → OilRefusal text r → OilRefusal text s → r ≡ s
one_oil text r s (inl a) (inl b) = one_least Oil (TextFault text) (of_text text) r s a b
one_oil text r s (inl a) (inr (inl b)) = absurd (b.is_fault.no_text_fault r a.is_fault)
one_oil text r s (inl a) (inr (inr b)) = absurd (b.has_tree.no_text_fault r a.is_fault)
one_oil text r s (inr (inl a)) (inl b) = absurd (a.is_fault.no_text_fault s b.is_fault)
one_oil text r s (inr (inl a)) (inr (inl b)) = one_least Oil (HasGrammarFault text) (of_grammar text) r s a b
one_oil text r s (inr (inl a)) (inr (inr b)) = absurd (not_both text b.tree r b.has_tree a.is_fault)
one_oil text r s (inr (inr a)) (inl b) = absurd (a.has_tree.no_text_fault s b.is_fault)
one_oil text r s (inr (inr a)) (inr (inl b)) = absurd (not_both text a.tree s a.has_tree b.is_fault)
one_oil text r s (inr (inr a)) (inr (inr b)) =
    let P : OilTree → Type 0 = λ tree. IsLeast (ModelFault tree) s in
    one_least Oil (ModelFault a.tree) (of_tree a.tree) r s a.least (subst P (one_tree text b.tree a.tree b.has_tree a.has_tree) b.least)

module _ (text : List ℕ) (config : Config) where
  -- the calls of one task code of the text have no cycle, so those of another have none
  none_else : (app other : App) (r : Refusal) → HasApp text config app → HasApp text config other → NoFault (CycleFault app) → CycleFault other r → ⊥
  none_else app other r a b n f = n r (subst (λ (x : App). CycleFault x r) (one_app text config other app b a) f)

  one_source : (r s : Refusal) → SourceRefusal text config r → SourceRefusal text config s → r ≡ s
  one_source r s (inl a) (inl b) = one_least Src (SourceTextFault config text) (of_source config text) r s a b
  one_source r s (inl a) (inr (inl b)) = absurd (b.has_app.no_fault r a.is_fault)
  one_source r s (inl a) (inr (inr b)) = absurd (b.has_app.no_fault r a.is_fault)
  one_source r s (inr (inl a)) (inl b) = absurd (a.has_app.no_fault s b.is_fault)
  one_source r s (inr (inl a)) (inr (inl b)) =
      one_least Src (CycleFault a.app) (of_cycle a.app) r s a.least
      (subst (λ (x : App). IsLeast (CycleFault x) s) (one_app text config b.app a.app b.has_app a.has_app) b.least)
  one_source r s (inr (inl a)) (inr (inr b)) = absurd (none_else b.app a.app r b.has_app a.has_app b.no_cycle a.least.is_fault)
  one_source r s (inr (inr a)) (inl b) = absurd (a.has_app.no_fault s b.is_fault)
  one_source r s (inr (inr a)) (inr (inl b)) = absurd (none_else a.app b.app s a.has_app b.has_app a.no_cycle b.least.is_fault)
  one_source r s (inr (inr a)) (inr (inr b)) =
      one_least Src (RuleFault config a.app) (of_rule config a.app) r s a.least
      (subst (λ (x : App). IsLeast (RuleFault config x) s) (one_app text config b.app a.app b.has_app a.has_app) b.least)

pub one_refusal : (oil src : List ℕ) (r s : Refusal) → FirstRefusal oil src r → FirstRefusal oil src s → r ≡ s
one_refusal oil src r s (inl a) (inl b) = one_oil oil r s a b
one_refusal oil src r s (inl a) (inr b) = absurd (declared oil b.config r b.configuration a)
one_refusal oil src r s (inr a) (inl b) = absurd (declared oil a.config s a.configuration b)
one_refusal oil src r s (inr a) (inr b) =
    one_source src a.config r s a.refused
    (subst (λ (c : Config). SourceRefusal src c s) (one_configuration oil b.config a.config b.configuration a.configuration) b.refused)
