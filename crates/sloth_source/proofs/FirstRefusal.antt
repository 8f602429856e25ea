-- Texts that are not accepted have a first refusal.
use Rattle.std.proofs.Common.{ℕ, List, ◌⊎◌, inl, inr, refl}
use Rattle.sloth_base.specs.declared.config.Config.{Config}
use Rattle.sloth_base.specs.declared.app.App.{App}
use Rattle.sloth_base.specs.declared.refusal.Refusal.{Refusal}
use Rattle.sloth_base.specs.Order.{NoFault}
use Rattle.oil_parse.specs.Tokens.{TextFault}
use Rattle.oil_parse.specs.declared.tree.OilTree.{OilTree}
use Rattle.oil_parse.specs.Text.{HasTree, HasGrammarFault}
use Rattle.oil_parse.proofs.Judged.{judged}
use Rattle.oil_rules.specs.ModelFaults.{ModelFault}
use Rattle.oil_rules.specs.Configs.{config_of}
use Rattle.code_rules.specs.WellFormed.{CycleFault, RuleFault}
use Rattle.asm_lines.specs.Faults.{source_lines}
use Rattle.asm_parse.specs.Apps.{app_of}
use Rattle.asm_parse.specs.AppTexts.{SourceTextFault}
use Rattle.sloth_source.specs.OilText.{OilText, OilRefusal}
use Rattle.sloth_source.specs.SourceText.{HasApp, SourceText, SourceRefusal}
use Rattle.sloth_source.specs.Texts.{AreAccepted, FirstRefusal}
use Rattle.sloth_source.proofs.Least.{least_or_none}

-- a configuration or a refusal
oil_whole : (text : List ℕ) → ((config : Config) → OilText text config → ⊥) → ((r : Refusal) → OilRefusal text r → ⊥) → ⊥
oil_whole text none kept =
    least_or_none (TextFault text) (λ r l. kept r (inl l)) (λ no_text.
    least_or_none (HasGrammarFault text) (λ r l. kept r (inr (inl l))) (λ no_grammar. by no_text no_grammar (judged text)))
  where
    by : NoFault (TextFault text) → NoFault (HasGrammarFault text)
        → ((r : Refusal) × TextFault text r) ⊎ (((r : Refusal) × HasGrammarFault text r) ⊎ ((tree : OilTree) × HasTree text tree)) → ⊥
    by no_text no_grammar (inl f) = no_text f.0 f.1
    by no_text no_grammar (inr (inl f)) = no_grammar f.0 f.1
    by no_text no_grammar (inr (inr t)) =
        least_or_none (ModelFault t.0) (λ r l. kept r (inr (inr (record { tree = t.0; has_tree = t.1; least = l }))))
        (λ no_fault. none (config_of t.0.objects) (record { tree = t.0; has_tree = t.1; no_fault = no_fault; means = refl }))

-- task code or a refusal
source_whole : (text : List ℕ) (config : Config) → ((app : App) → SourceText text config app → ⊥) → ((r : Refusal) → SourceRefusal text config r → ⊥) → ⊥
source_whole text config none kept = least_or_none (SourceTextFault config text) (λ r l. kept r (inl l)) by
  where
    app : App
    app = app_of config (source_lines text)

    by : NoFault (SourceTextFault config text) → ⊥
    by no_text =
        let has : HasApp text config app = record { no_fault = no_text; says = refl } in
        least_or_none (CycleFault app) (λ r l. kept r (inr (inl (record { app = app; has_app = has; least = l })))) (λ no_cycle.
        least_or_none (RuleFault config app) (λ r l. kept r (inr (inr (record { app = app; has_app = has; no_cycle = no_cycle; least = l }))))
        (λ no_fault. none app (record { has_app = has; no_cycle = no_cycle; no_fault = no_fault })))

pub not_neither : (oil src : List ℕ) → ((config : Config) (app : App) → AreAccepted oil src config app → ⊥) → ((r : Refusal) → FirstRefusal oil src r → ⊥) → ⊥
not_neither oil src none kept =
    oil_whole oil (λ config declared.
    source_whole src config (λ app code. none config app (record { configuration = declared; code = code }))
    (λ r refused. kept r (inr (record { config = config; configuration = declared; refused = refused }))))
    (λ r refused. kept r (inl refused))
