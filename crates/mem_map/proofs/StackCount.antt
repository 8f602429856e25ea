-- How many stacks there are.
use Rattle.std.specs.Prelude.{ℕ, ◌+◌, List, length}
use Rattle.sloth_base.specs.declared.config.TaskDecl.{TaskDecl}
use Rattle.mem_map.specs.StackParts.{own_before, first_own}

-- how many stacks there are
abbrev pub stack_count : List TaskDecl → ℕ
stack_count tasks = first_own tasks + own_before tasks (length tasks)
