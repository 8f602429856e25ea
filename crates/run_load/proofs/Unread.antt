-- Why texts are not read.
use Rattle.std.proofs.Common.{ℕ, List, inl, inr}
use Rattle.sloth_base.specs.declared.app.App.{App}
use Rattle.sloth_base.specs.declared.config.Config.{Config}
use Rattle.sloth_base.specs.declared.refusal.BuildError.{BuildError}
use Rattle.sloth_base.specs.declared.refusal.BuildError.TheVariants as error
use Rattle.sloth_base.specs.DeclaredNames.{task_names, counter_names}
use Rattle.sloth_base.specs.Order.{ErrorIs}
use Rattle.sloth_source.specs.Texts.{AreAccepted, SourcesErrorIs}
use Rattle.load_text.specs.declared.load_line.Entry.{Entry}
use Rattle.load_text.specs.LoadText.{LoadFault}
use Rattle.trace_text.specs.ArrivalsText.{ArrivalsFault}
use Rattle.response_text.specs.Inputs.{IsLoadOf}
use Rattle.run_load.specs.RunText.{RunErrorIs}

pub sources_unread : (oil src load arr : List ℕ) (e : BuildError) → SourcesErrorIs oil src e → RunErrorIs oil src load arr e
sources_unread oil src load arr (error.Refused r) h = inl (inl h)
sources_unread oil src load arr error.Memory h = tt

pub load_unread : (oil src load arr : List ℕ) (config : Config) (app : App) (e : BuildError) → AreAccepted oil src config app
    → ErrorIs (LoadFault (task_names config) (counter_names config) load) e → RunErrorIs oil src load arr e
load_unread oil src load arr config app (error.Refused r) accepted h = inl (inr (record { config = config; app = app; accepted = accepted; least = h }))
load_unread oil src load arr config app error.Memory accepted h = tt

pub arrivals_unread : (oil src load arr : List ℕ) (config : Config) (app : App) (entries : List Entry) (e : BuildError) → AreAccepted oil src config app
    → IsLoadOf config load entries → ErrorIs (ArrivalsFault (task_names config) (counter_names config) arr) e → RunErrorIs oil src load arr e
arrivals_unread oil src load arr config app entries (error.Refused r) accepted is h =
    inr (record { config = config; app = app; accepted = accepted; entries = entries; is_load = is; least = h })
arrivals_unread oil src load arr config app entries error.Memory accepted is h = tt
