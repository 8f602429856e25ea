-- Interrupt levels of priorities.
use Rattle.std.specs.Prelude.{ℕ, List, count_by, nat_le}
use Rattle.sloth_base.specs.declared.config.Config.{Config}
use Rattle.sloth_base.specs.declared.config.TaskDecl.{TaskDecl}

-- the level of a priority among these tasks: how many of them have no greater priority
abbrev pub level_among : List TaskDecl → ℕ → ℕ
level_among tasks priority = count_by (λ task. nat_le task.priority priority) tasks

-- the same in a configuration
abbrev pub level_of : Config → ℕ → ℕ
level_of config priority = level_among config.tasks priority
