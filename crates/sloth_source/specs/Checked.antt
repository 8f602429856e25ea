-- Task code that keeps all rules, and why other task code does not.
use Rattle.std.specs.Prelude.{◌≡◌}
use Rattle.sloth_base.specs.declared.config.Config.{Config}
use Rattle.sloth_base.specs.declared.app.App.{App}
use Rattle.sloth_base.specs.declared.refusal.BuildError.{BuildError}
use Rattle.sloth_base.specs.Order.{NoFault, ErrorIs}
use Rattle.code_rules.specs.WellFormed.{RuleFault}
use Rattle.stack_bounds.specs.Bounds.{AreBounds}
use Rattle.sloth_source.specs.declared.reading.Source.{Source}

-- the task code keeps all rules, with the bytes of its stacks
pub record IsBounded (config : Config) (app : App) (source : Source) : Type 0 where
  pub config_is : source.config ≡ config
  pub app_is : source.app ≡ app
  pub none : NoFault (RuleFault config app)
  pub bounds : AreBounds config app source.bounds

-- why task code is not verified: want of memory, or its least fault
abbrev pub RulesErrorIs : Config → App → BuildError → Type 0
RulesErrorIs config app error = ErrorIs (RuleFault config app) error
