-- The draws of a generated application: a linear congruential generator of words of 32 bits.
use Rattle.std.specs.Prelude.{ℕ, zero, suc, ◌+◌, ◌*◌, ◌%◌, ◌^◌}

-- the draw behind this one
abbrev pub next_draw : ℕ → ℕ
next_draw x = (1664525 * x + 1013904223) % 2 ^ 32

-- the draw of a number, counted from 1, behind a seed
unfoldable pub draw : ℕ → ℕ → ℕ
draw seed zero = seed
draw seed (suc k) = next_draw (draw seed k)
