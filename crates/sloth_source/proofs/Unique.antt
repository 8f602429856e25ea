-- Texts have one meaning, and no refusal.
use Rattle.std.proofs.Common.{◌≡◌, ◌∙◌, ℕ, List, sym, ap, subst, inl, inr}
use Rattle.sloth_base.specs.declared.config.Config.{Config}
use Rattle.sloth_base.specs.declared.app.App.{App}
use Rattle.sloth_base.specs.declared.refusal.Refusal.{Refusal}
use Rattle.oil_parse.specs.declared.tree.OilTree.{OilTree}
use Rattle.oil_parse.proofs.Texts.{one_tree, not_both}
use Rattle.oil_rules.specs.ModelFaults.{ModelFault}
use Rattle.code_rules.specs.WellFormed.{CycleFault, RuleFault}
use Rattle.asm_lines.specs.Faults.{source_lines}
use Rattle.asm_parse.specs.Apps.{app_of}
use Rattle.sloth_source.specs.OilText.{OilText, OilRefusal}
use Rattle.sloth_source.specs.SourceText.{HasApp, SourceText, SourceRefusal}
use Rattle.sloth_source.specs.Texts.{AreAccepted, FirstRefusal}
use Rattle.sloth_source.specs.RankedTexts.{HasRanks, EarlySourceRefusal}
use Rattle.sloth_source.proofs.Readings.{one_configuration}

-- a text says one task code
pub one_app : (text : List ℕ) (config : Config) (app other : App) → HasApp text config app → HasApp text config other → app ≡ other
one_app text config app other a b = a.says ∙ sym b.says

-- what is accepted has ranks
pub accepted_ranks : (oil src : List ℕ) (config : Config) (app : App) → AreAccepted oil src config app → HasRanks oil src config app
accepted_ranks oil src config app h = record { configuration = h.configuration; has_app = h.code.has_app; no_cycle = h.code.no_cycle }

pub one_ranked : (oil src : List ℕ) (c d : Config) (a b : App) → HasRanks oil src c a → HasRanks oil src d b → (c ≡ d) × (a ≡ b)
one_ranked oil src c d a b h i =
    let one = one_configuration oil c d h.configuration i.configuration in
    (one, h.has_app.says ∙ ap (λ config. app_of config (source_lines src)) one ∙ sym i.has_app.says)

pub one_meaning : (oil src : List ℕ) (c d : Config) (a b : App) → AreAccepted oil src c a → AreAccepted oil src d b → (c ≡ d) × (a ≡ b)
one_meaning oil src c d a b h i = one_ranked oil src c d a b (accepted_ranks oil src c a h) (accepted_ranks oil src d b i)

-- what declares a configuration is not refused
pub declared : (text : List ℕ) (config : Config) (r : Refusal) → OilText text config → OilRefusal text r → ⊥
declared text config r t (inl least) = t.has_tree.no_text_fault r least.is_fault
declared text config r t (inr (inl least)) = not_both text t.tree r t.has_tree least.is_fault
declared text config r t (inr (inr least)) =
    let same : least.tree ≡ t.tree = one_tree text least.tree t.tree least.has_tree t.has_tree in
    let P : OilTree → Type 0 = λ tree. ModelFault tree r in
    t.no_fault r (subst P same least.least.is_fault)

-- what says task code without a cycle of calls is not refused for its lines, names, limits or cycles
pub never_ranked : (text : List ℕ) (config : Config) (app : App) (r : Refusal) → HasApp text config app → ((s : Refusal) → CycleFault app s → ⊥)
    → EarlySourceRefusal text config r → ⊥
never_ranked text config app r has none (inl least) = has.no_fault r least.is_fault
never_ranked text config app r has none (inr h) = none r (subst (λ (a : App). CycleFault a r) (one_app text config h.app app h.has_app has) h.least.is_fault)

-- nor is what says task code without a fault for its rules
kept : (text : List ℕ) (config : Config) (app : App) (r : Refusal) → SourceText text config app → SourceRefusal text config r → ⊥
kept text config app r t (inl least) = never_ranked text config app r t.has_app t.no_cycle (inl least)
kept text config app r t (inr (inl h)) = never_ranked text config app r t.has_app t.no_cycle (inr h)
kept text config app r t (inr (inr h)) =
    t.no_fault r (subst (λ (a : App). RuleFault config a r) (one_app text config h.app app h.has_app t.has_app) h.least.is_fault)

-- what is accepted is not refused
pub never_both : (oil src : List ℕ) (config : Config) (app : App) (r : Refusal) → AreAccepted oil src config app → FirstRefusal oil src r → ⊥
never_both oil src config app r h (inl refused) = declared oil config r h.configuration refused
never_both oil src config app r h (inr refused) =
    kept src config app r h.code
    (subst (λ (c : Config). SourceRefusal src c r) (one_configuration oil refused.config config refused.configuration h.configuration) refused.refused)
