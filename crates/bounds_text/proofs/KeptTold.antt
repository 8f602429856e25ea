-- The bounds that are told are kept by runs.
use Rattle.std.proofs.Common.{◌≡◌, ◌<◌, ℕ, List, length, get_or, subst}
use Rattle.sloth_base.specs.declared.config.Config.{Config}
use Rattle.sloth_base.specs.declared.app.App.{App}
use Rattle.code_rules.specs.WellFormed.{WellFormed}
use Rattle.osek_blocking.specs.Sections.{IsBound}
use Rattle.osek_blocking.proofs.KeptBounds.{keeps_bounds}
use Rattle.bound_rules.specs.declared.bound.Bound.{Bound}
use Rattle.bound_rules.specs.declared.bound.Bound.TheVariants as bound
use Rattle.bounds_text.specs.Bounds.{IsTold, AreToldBounds}
use Rattle.bounds_text.specs.Kept.{RunsKeepTold}

-- a number that is told is the bound
pub told-bound : (config : Config) (app : App) (bounds : List Bound) (h b : ℕ) → AreToldBounds config app bounds → h < length config.tasks
    → get_or bounds h bound.Endless ≡ bound.Items b → IsBound config app h b
told-bound config app bounds h b are within is = (subst (IsTold config app h) is (are.each h within)).0

pub keeps-told : (config : Config) (app : App) (bounds : List Bound) → WellFormed config app → AreToldBounds config app bounds → RunsKeepTold config app bounds
keeps-told config app bounds code are events run h b is before behind made found s events-are leads makes =
    keeps_bounds config app events code run before behind made h b found s events-are leads makes (told-bound config app bounds h b are makes.declared is)
