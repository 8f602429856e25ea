-- What a configuration and task source mean together, and which refusal is the first.
use Rattle.std.specs.Prelude.{ℕ, ◌⊎◌, List}
use Rattle.sloth_base.specs.declared.config.Config.{Config}
use Rattle.sloth_base.specs.declared.app.App.{App}
use Rattle.sloth_base.specs.declared.refusal.Refusal.{Refusal}
use Rattle.sloth_base.specs.declared.refusal.BuildError.{BuildError}
use Rattle.sloth_base.specs.declared.refusal.BuildError.TheVariants as error
use Rattle.sloth_source.specs.OilText.{OilText, OilRefusal}
use Rattle.sloth_source.specs.SourceText.{SourceText, SourceRefusal}

-- the first text declares the configuration, and the second says its task code, without a fault of either
pub record AreAccepted (oil src : List ℕ) (config : Config) (app : App) : Type 0 where
  pub configuration : OilText oil config
  pub code : SourceText src config app

-- the first text declares a configuration, and the second is refused for it
pub record HasSourceRefusal (oil src : List ℕ) (refusal : Refusal) : Type 0 where
  pub config : Config
  pub configuration : OilText oil config
  pub refused : SourceRefusal src config refusal

-- The texts are refused so: the configuration, or else, where it has no fault, the task source.
abbrev pub FirstRefusal : List ℕ → List ℕ → Refusal → Type 0
FirstRefusal oil src refusal = OilRefusal oil refusal ⊎ HasSourceRefusal oil src refusal

-- why the texts were not read: want of memory, or the refusal
abbrev pub SourcesErrorIs : List ℕ → List ℕ → BuildError → Type 0
SourcesErrorIs oil src (error.Refused refusal) = FirstRefusal oil src refusal
SourcesErrorIs oil src error.Memory = Unit {0}
