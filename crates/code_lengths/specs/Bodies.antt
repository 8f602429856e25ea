-- The bodies of tasks.
use Rattle.std.specs.Prelude.{ℕ, ◌≡◌, ◌<◌, Some, List, length, slice_index_or}
use Rattle.sloth_base.specs.declared.app.Func.{Func}

-- the function at this place is the task's body
abbrev pub IsBodyPlace : List Func → ℕ → ℕ → Type 0
IsBodyPlace funcs task body = (body < length funcs) × ((d : Func) → (slice_index_or funcs body d).task ≡ Some task)
