-- Task code that is walked, as one value.
use Rattle.std.specs.Prelude.{ℕ, List}
use Rattle.sloth_base.specs.declared.config.Config.{Config}
use Rattle.sloth_base.specs.declared.app.App.{App}
use Rattle.code_rules.specs.WellFormed.{WellFormed}
use Rattle.bound_rules.specs.declared.bound.Body.{Body}
use Rattle.walk_sums.specs.CallOrder.{IsCallOrder}
use Rattle.walk_sums.specs.KnownBodies.{AreKnownBodies}
use Rattle.walk_sums.specs.declared.walks.KnownCode.{KnownCode}

-- task code with its configuration, its functions in an order, and what is known of each body
pub record WalkedCode : Type 0 where
  pub config : Config
  pub app : App
  pub order : List ℕ
  pub bodies : List Body

-- it is well formed, each function stands behind those that it calls, and what is known of the bodies is so
pub record IsWalked (w : WalkedCode) : Type 0 where
  pub well_formed : WellFormed w.config w.app
  pub order : IsCallOrder w.app w.order
  pub bodies : AreKnownBodies w.config w.app w.bodies

-- task code with what is known of it
abbrev pub walked_code : Config → App → KnownCode → WalkedCode
walked_code config app known = record { config = config; app = app; order = known.order; bodies = known.bodies }

-- what is known of task code is so
abbrev pub IsKnownCode : Config → App → KnownCode → Type 0
IsKnownCode config app known = IsWalked (walked_code config app known)
