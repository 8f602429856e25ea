-- Numbers that may be absent.
use Rattle.std.specs.Prelude.{ℕ, ◌==◌, Bool, false, Option, Some, None}

-- the number is there, and it is this one
abbrev pub is_number : ℕ → Option ℕ → Bool
is_number number None = false
is_number number (Some given) = given == number
