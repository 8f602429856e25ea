-- Why texts are not read.
use Rattle.std.proofs.Common.{ℕ, List, inl, inr}
use Rattle.sloth_base.specs.declared.app.App.{App}
use Rattle.sloth_base.specs.declared.config.Config.{Config}
use Rattle.sloth_base.specs.declared.refusal.BuildError.{BuildError}
use Rattle.sloth_base.specs.declared.refusal.BuildError.TheVariants as error
use Rattle.sloth_base.specs.DeclaredNames.{task_names, counter_names}
use Rattle.sloth_base.specs.Order.{ErrorIs}
use Rattle.sloth_source.specs.Texts.{AreAccepted, SourcesErrorIs}
use Rattle.load_text.specs.LoadText.{LoadFault}
use Rattle.response_text.specs.Inputs.{InputsErrorIs}

-- the first refusal of the configuration and the task code is that of all three texts
pub sources_refused : (oil src load : List ℕ) (e : BuildError) → SourcesErrorIs oil src e → InputsErrorIs oil src load e
sources_refused oil src load (error.Refused r) h = inl h
sources_refused oil src load error.Memory h = tt

-- so is the least fault of the load, where these are accepted
pub load_refused : (oil src load : List ℕ) (config : Config) (app : App) (e : BuildError) → AreAccepted oil src config app
    → ErrorIs (LoadFault (task_names config) (counter_names config) load) e → InputsErrorIs oil src load e
load_refused oil src load config app (error.Refused r) accepted h = inr (record { config = config; app = app; accepted = accepted; least = h })
load_refused oil src load config app error.Memory accepted h = tt
