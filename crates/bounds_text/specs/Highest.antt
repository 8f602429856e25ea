-- The task of highest priority.
use Rattle.std.specs.Prelude.{ℕ, ◌<◌, ◌≤◌, List, length, get_or}
use Rattle.sloth_base.specs.declared.config.TaskDecl.{TaskDecl}
use Rattle.sloth_base.specs.Named.{undeclared_task}

-- none of the first k tasks has a higher priority than task h
abbrev pub AreAtMost : List TaskDecl → (h k : ℕ) → Type 0
AreAtMost tasks h k = (t : ℕ) → t < k → (get_or tasks t undeclared_task).priority ≤ (get_or tasks h undeclared_task).priority

-- no task has a higher priority than task h
abbrev pub IsHighestAmong : List TaskDecl → (h : ℕ) → Type 0
IsHighestAmong tasks h = (h < length tasks) × AreAtMost tasks h (length tasks)
