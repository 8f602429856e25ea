-- What texts mean before the rules of task code are judged, and their refusals then.
use Rattle.std.proofs.Common.{◌≡◌, ℕ, List, subst, inl, inr}
use Rattle.sloth_base.specs.declared.config.Config.{Config}
use Rattle.sloth_base.specs.declared.app.App.{App}
use Rattle.sloth_base.specs.declared.refusal.Refusal.{Refusal}
use Rattle.sloth_base.specs.declared.refusal.BuildError.{BuildError}
use Rattle.sloth_base.specs.declared.refusal.BuildError.TheVariants as error
use Rattle.sloth_base.specs.Order.{ErrorIs}
use Rattle.code_rules.specs.WellFormed.{CycleFault, RuleFault}
use Rattle.asm_parse.specs.AppTexts.{SourceTextFault}
use Rattle.sloth_source.specs.OilText.{OilText, OilErrorIs}
use Rattle.sloth_source.specs.SourceText.{HasApp, SourceRefusal}
use Rattle.sloth_source.specs.Texts.{FirstRefusal, SourcesErrorIs as TextsErrorIs}
use Rattle.sloth_source.specs.RankedTexts.{HasRanks, EarlySourceRefusal, EarlyRefusal, EarlySourceErrorIs, EarlyErrorIs}
use Rattle.sloth_source.proofs.Readings.{one_configuration}
use Rattle.sloth_source.proofs.Unique.{declared, never_ranked}
use Rattle.sloth_source.proofs.Refusals.{one_refusal}

-- ---- a refusal is the first

pub source_first : (text : List ℕ) (config : Config) (r : Refusal) → EarlySourceRefusal text config r → SourceRefusal text config r
source_first text config r (inl h) = inl h
source_first text config r (inr h) = inr (inl h)

pub early_first : (oil src : List ℕ) (r : Refusal) → EarlyRefusal oil src r → FirstRefusal oil src r
early_first oil src r (inl h) = inl h
early_first oil src r (inr h) = inr (record { config = h.config; configuration = h.configuration; refused = source_first src h.config r h.refused })

pub one_early : (oil src : List ℕ) (r s : Refusal) → EarlyRefusal oil src r → EarlyRefusal oil src s → r ≡ s
one_early oil src r s a b = one_refusal oil src r s (early_first oil src r a) (early_first oil src s b)

-- ---- what has ranks is not refused

pub never_both_ranked : (oil src : List ℕ) (config : Config) (app : App) (r : Refusal) → HasRanks oil src config app → EarlyRefusal oil src r → ⊥
never_both_ranked oil src config app r h (inl refused) = declared oil config r h.configuration refused
never_both_ranked oil src config app r h (inr refused) =
    never_ranked src config app r h.has_app h.no_cycle
    (subst (λ (c : Config). EarlySourceRefusal src c r) (one_configuration oil refused.config config refused.configuration h.configuration) refused.refused)

-- ---- from the readers of the stages

module _ (text : List ℕ) (config : Config) where
  -- the least fault of the lines, names and limits
  pub text_refused : (error : BuildError) → ErrorIs (SourceTextFault config text) error → EarlySourceErrorIs text config error
  text_refused (error.Refused r) h = inl h
  text_refused error.Memory h = tt

  -- the least function on a cycle of calls
  pub cycle_refused : (app : App) (error : BuildError) → HasApp text config app → ErrorIs (CycleFault app) error → EarlySourceErrorIs text config error
  cycle_refused app (error.Refused r) has h = inr (record { app = app; has_app = has; least = h })
  cycle_refused app error.Memory has h = tt

-- the first refusal of the configuration is that of both texts
pub oil_refused : (oil src : List ℕ) (error : BuildError) → OilErrorIs oil error → EarlyErrorIs oil src error
oil_refused oil src (error.Refused r) h = inl h
oil_refused oil src error.Memory h = tt

-- so is that of the source, where the configuration has none
pub code_refused : (oil src : List ℕ) (config : Config) (error : BuildError) → OilText oil config → EarlySourceErrorIs src config error → EarlyErrorIs oil src error
code_refused oil src config (error.Refused r) t h = inr (record { config = config; configuration = t; refused = h })
code_refused oil src config error.Memory t h = tt

-- a refusal before the rules is the first
pub early_refused : (oil src : List ℕ) (error : BuildError) → EarlyErrorIs oil src error → TextsErrorIs oil src error
early_refused oil src (error.Refused r) h = early_first oil src r h
early_refused oil src error.Memory h = tt

-- the least fault against the rules is the first refusal of texts that have ranks
pub rule_refused : (oil src : List ℕ) (config : Config) (app : App) (error : BuildError) → HasRanks oil src config app → ErrorIs (RuleFault config app) error
    → TextsErrorIs oil src error
rule_refused oil src config app (error.Refused r) has h = inr (record {
  config = config;
  configuration = has.configuration;
  refused = inr (inr (record { app = app; has_app = has.has_app; no_cycle = has.no_cycle; least = h }));
})
rule_refused oil src config app error.Memory has h = tt
