-- Two tasks of task code, of which the one is lower.
use Rattle.std.specs.Prelude.{ℕ, ◌<◌, length}
use Rattle.sloth_base.specs.declared.config.Config.{Config}
use Rattle.sloth_base.specs.declared.app.App.{App}
use Rattle.osek_blocking.specs.Sections.{IsLower}

-- task code, a task of it, and another one
pub record TrialCode : Type 0 where
  pub config : Config
  pub app : App
  pub above : ℕ
  pub task : ℕ

-- the other one is lower
pub record IsTrial (t : TrialCode) : Type 0 where
  pub above : t.above < length t.config.tasks
  pub lower : IsLower t.config t.above t.task
