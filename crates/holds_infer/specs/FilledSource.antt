-- A source with the list of each label filled in, and why there is none.
use Rattle.std.specs.Prelude.{ℕ, ◌≡◌, List}
use Rattle.sloth_base.specs.declared.config.Config.{Config}
use Rattle.sloth_base.specs.declared.app.App.{App}
use Rattle.sloth_base.specs.declared.refusal.BuildError.{BuildError}
use Rattle.sloth_base.specs.declared.refusal.BuildError.TheVariants as build
use Rattle.sloth_source.specs.Texts.{AreAccepted}
use Rattle.sloth_source.specs.RankedTexts.{HasRanks, EarlyRefusal}
use Rattle.holds_infer.specs.Filling.{IsFilling}
use Rattle.holds_infer.specs.declared.inference.InferError.{InferError}
use Rattle.holds_infer.specs.declared.inference.InferError.TheVariants as infer
use Rattle.holds_infer.specs.FilledText.{filled_text}
use Rattle.holds_infer.specs.declared.sources.FillError.{FillError}
use Rattle.holds_infer.specs.declared.sources.FillError.TheVariants as error

-- the source with the one choice of lists that keeps every rule; with the same configuration it is accepted, and says this task code
pub record IsFilledSource (oil src out : List ℕ) : Type 0 where
  pub config : Config
  pub before : App
  pub app : App
  pub has_ranks : HasRanks oil src config before
  pub filling : IsFilling config before app
  pub text : out ≡ filled_text src config app
  pub accepted : AreAccepted oil out config app

-- no choice of lists keeps every rule
pub record HasNoLists (oil src : List ℕ) : Type 0 where
  pub config : Config
  pub app : App
  pub has_ranks : HasRanks oil src config app
  pub none : (other : App) → IsFilling config app other → ⊥

-- why a source was not filled in: the first refusal before the rules of task code, that no lists keep them, or want of memory
abbrev pub FillErrorIs : List ℕ → List ℕ → FillError → Type 0
FillErrorIs oil src (error.Refused refusal) = EarlyRefusal oil src refusal
FillErrorIs oil src error.NoHolds = HasNoLists oil src
FillErrorIs oil src error.Memory = Unit {0}

-- the same, of an error of the readers
abbrev pub fill_error : BuildError → FillError
fill_error (build.Refused refusal) = error.Refused refusal
fill_error build.Memory = error.Memory

-- the same, where lists are looked for
abbrev pub no_lists_error : InferError → FillError
no_lists_error infer.NoHolds = error.NoHolds
no_lists_error infer.Memory = error.Memory
