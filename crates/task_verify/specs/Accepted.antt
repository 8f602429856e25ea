-- Task code that was verified, with its configuration.
use Rattle.sloth_base.specs.declared.config.Config.{Config}
use Rattle.sloth_base.specs.declared.app.App.{App}

-- a configuration and its task code, as they were verified
pub record VerifiedCode : Type 0 where
  pub config : Config
  pub app : App
