-- Why inputs are not read.
use Rattle.std.proofs.Common.{ℕ, List, inl, inr}
use Rattle.sloth_base.specs.declared.app.App.{App}
use Rattle.sloth_base.specs.declared.config.Config.{Config}
use Rattle.sloth_base.specs.declared.refusal.BuildError.{BuildError}
use Rattle.sloth_base.specs.declared.refusal.BuildError.TheVariants as error
use Rattle.sloth_base.specs.DeclaredNames.{task_names, counter_names}
use Rattle.sloth_base.specs.Order.{ErrorIs}
use Rattle.sloth_source.specs.Texts.{AreAccepted, SourcesErrorIs}
use Rattle.trace_text.specs.ArrivalsText.{ArrivalsFault}
use Rattle.run_inputs.specs.Inputs.{InputsErrorIs}

-- the first refusal of the texts is that of the inputs
pub sources_refused : (oil src arr : List ℕ) (e : BuildError) → SourcesErrorIs oil src e → InputsErrorIs oil src arr e
sources_refused oil src arr (error.Refused r) h = inl h
sources_refused oil src arr error.Memory h = tt

-- so is the least fault of the arrivals, where the texts are accepted
pub arrivals_refused : (oil src arr : List ℕ) (config : Config) (app : App) (e : BuildError) → AreAccepted oil src config app
    → ErrorIs (ArrivalsFault (task_names config) (counter_names config) arr) e → InputsErrorIs oil src arr e
arrivals_refused oil src arr config app (error.Refused r) accepted h = inr (record { config = config; app = app; accepted = accepted; least = h })
arrivals_refused oil src arr config app error.Memory accepted h = tt
