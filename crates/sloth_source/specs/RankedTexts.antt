-- What a configuration and task source mean together before the rules of task code are judged, and which refusal comes before them.
use Rattle.std.specs.Prelude.{ℕ, ◌⊎◌, List}
use Rattle.sloth_base.specs.declared.config.Config.{Config}
use Rattle.sloth_base.specs.declared.app.App.{App}
use Rattle.sloth_base.specs.declared.refusal.Refusal.{Refusal}
use Rattle.sloth_base.specs.declared.refusal.BuildError.{BuildError}
use Rattle.sloth_base.specs.declared.refusal.BuildError.TheVariants as error
use Rattle.sloth_base.specs.Order.{IsLeast, NoFault}
use Rattle.code_rules.specs.WellFormed.{CycleFault}
use Rattle.asm_parse.specs.AppTexts.{SourceTextFault}
use Rattle.sloth_source.specs.OilText.{OilText, OilRefusal}
use Rattle.sloth_source.specs.SourceText.{HasApp, HasCycleFault}

-- The first text declares the configuration, and the second says its task code, whose calls have no cycle. Its lists and all else that the
-- other rules of task code speak of may be wrong.
pub record HasRanks (oil src : List ℕ) (config : Config) (app : App) : Type 0 where
  pub configuration : OilText oil config
  pub has_app : HasApp src config app
  pub no_cycle : NoFault (CycleFault app)

-- The text is refused so: for its lines (A1 to A4), or else its names and limits (A5 to A7), or else its cycles of calls (V1).
abbrev pub EarlySourceRefusal : List ℕ → Config → Refusal → Type 0
EarlySourceRefusal text config refusal = IsLeast (SourceTextFault config text) refusal ⊎ HasCycleFault text config refusal

-- the first text declares a configuration, and the second is refused for it
pub record HasEarlySourceRefusal (oil src : List ℕ) (refusal : Refusal) : Type 0 where
  pub config : Config
  pub configuration : OilText oil config
  pub refused : EarlySourceRefusal src config refusal

-- The texts are refused so: the configuration, or else, where it has no fault, the task source.
abbrev pub EarlyRefusal : List ℕ → List ℕ → Refusal → Type 0
EarlyRefusal oil src refusal = OilRefusal oil refusal ⊎ HasEarlySourceRefusal oil src refusal

-- why a source has no ranks: want of memory, or the refusal
abbrev pub EarlySourceErrorIs : List ℕ → Config → BuildError → Type 0
EarlySourceErrorIs text config (error.Refused refusal) = EarlySourceRefusal text config refusal
EarlySourceErrorIs text config error.Memory = Unit {0}

-- the same of both texts
abbrev pub EarlyErrorIs : List ℕ → List ℕ → BuildError → Type 0
EarlyErrorIs oil src (error.Refused refusal) = EarlyRefusal oil src refusal
EarlyErrorIs oil src error.Memory = Unit {0}
