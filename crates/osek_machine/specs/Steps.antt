-- The states of the abstract scheduler as a program.
use Rattle.std.specs.Prelude.{◌≡◌, Option, Some, None, Result, Ok, Err}
use Rattle.sloth_base.specs.declared.config.Config.{Config}
use Rattle.sloth_base.specs.declared.app.App.{App}
use Rattle.code_rules.specs.WellFormed.{WellFormed}
use Rattle.osek_scheduler.specs.State.{System}
use Rattle.osek_scheduler.specs.Valid.{IsValid, AreDistinct}
use Rattle.osek_scheduler.specs.Apart.{TasksAreApart}

-- a configuration, its task code, and the state of a run
pub record Machine : Type 0 where
  pub config : Config
  pub app : App
  pub system : System

-- a state that a run of well-formed task code may lead to
pub record IsSound (config : Config) (app : App) (s : System) : Type 0 where
  pub well_formed : WellFormed config app
  pub valid : IsValid config app s
  pub apart : TasksAreApart config s
  pub distinct : AreDistinct s.fresh

-- an event leads to its next state; where it has none, it changes nothing
abbrev pub Advances : {A E : Type 0} → Option System → (old new : System) → Result A E → Type 0
Advances next old new (Ok _) = next ≡ Some new
Advances next old new (Err _) = (next ≡ None) × (new ≡ old)
