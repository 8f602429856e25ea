-- Sets of small numbers as bits.
use Rattle.std.specs.Prelude.{ℕ, Bool, ◌==◌}
use Rattle.std.specs.Int.{bit_at}

-- the set has this member
unfoldable pub is_member : ℕ → ℕ → Bool
is_member set member = bit_at set member == 1
