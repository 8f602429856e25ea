-- Why no lists were found.
use Rattle.sloth_base.specs.declared.config.Config.{Config}
use Rattle.sloth_base.specs.declared.app.App.{App}
use Rattle.holds_infer.specs.declared.inference.InferError.{InferError}
use Rattle.holds_infer.specs.declared.inference.InferError.TheVariants.{NoHolds, Memory}
use Rattle.holds_infer.specs.Filling.{IsFilling}

-- no lists keep every rule, or want of memory
abbrev pub InferErrorIs : Config → App → InferError → Type 0
InferErrorIs config app NoHolds = (other : App) → IsFilling config app other → ⊥
InferErrorIs config app Memory = Unit {0}
