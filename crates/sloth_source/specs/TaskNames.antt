-- Tasks by their names.
use Rattle.std.specs.Prelude.{ℕ, List, position, bytes_eq, Bool, Option}
use Rattle.sloth_base.specs.declared.config.Config.{Config}
use Rattle.sloth_base.specs.declared.config.TaskDecl.{TaskDecl}

abbrev pub has_name : (name : List ℕ) → TaskDecl → Bool
has_name name t = bytes_eq name t.name

-- the number of the task of this name, if there is one
abbrev pub task_named : Config → (name : List ℕ) → Option ℕ
task_named config name = position (has_name name) config.tasks
