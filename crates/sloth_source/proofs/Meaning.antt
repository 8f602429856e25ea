-- What is read and verified is what the texts mean.
use Rattle.std.proofs.Common.{◌≡◌, ℕ, List, inr, subst, sym}
use Rattle.sloth_base.specs.declared.config.Config.{Config}
use Rattle.sloth_base.specs.declared.app.App.{App}
use Rattle.sloth_base.specs.declared.refusal.BuildError.{BuildError}
use Rattle.sloth_base.specs.declared.refusal.BuildError.TheVariants as build_error
use Rattle.sloth_base.specs.Order.{NoFault}
use Rattle.code_rules.specs.WellFormed.{RuleFault}
use Rattle.task_verify.specs.Accepted.{VerifiedCode}
use Rattle.sloth_source.specs.RankedTexts.{HasRanks}
use Rattle.sloth_source.specs.Texts.{AreAccepted, SourcesErrorIs}
use Rattle.sloth_source.specs.Checked.{RulesErrorIs}

pub accepted_code : (oil src : List ℕ) (config : Config) (app : App) (v : VerifiedCode) → HasRanks oil src config app → NoFault (RuleFault config app)
    → v ≡ record { config = config; app = app } → AreAccepted oil src v.config v.app
accepted_code oil src config app v ranked none e = subst (λ (x : VerifiedCode). AreAccepted oil src x.config x.app) (sym e) (record {
  configuration = ranked.configuration;
  code = record { has_app = ranked.has_app; no_cycle = ranked.no_cycle; no_fault = none };
})

-- why it is not verified is why the texts are refused
pub refused_code : (oil src : List ℕ) (config : Config) (app : App) (error : BuildError) → HasRanks oil src config app → RulesErrorIs config app error
    → SourcesErrorIs oil src error
refused_code oil src config app (build_error.Refused refusal) ranked least =
    inr (record {
      config = config;
      configuration = ranked.configuration;
      refused = inr (inr (record { app = app; has_app = ranked.has_app; no_cycle = ranked.no_cycle; least = least }));
    })
refused_code oil src config app build_error.Memory ranked least = tt
