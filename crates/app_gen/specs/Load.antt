-- The arrivals of a generated application of n tasks.
use Rattle.std.specs.Prelude.{ℕ, zero, suc, ◌+◌, ◌-◌, ◌*◌, ◌/◌, ◌%◌, List, map}
use Rattle.std.specs.List.{range_with_len}
use Rattle.sloth_base.specs.declared.service.Arrival.{Arrival}
use Rattle.sloth_base.specs.declared.numbers.Owners.{Owners}
use Rattle.app_gen.specs.Draws.{draw}

-- a draw without its low 16 bits, which repeat early
abbrev pub high_bits : ℕ → ℕ
high_bits x = x / 65536

-- from the moment before arrival k, counted from 0, to its own; the draws are those behind x, two for each arrival
unfoldable pub gap : ℕ → ℕ → ℕ
gap x k = 1 + high_bits (draw x (2 * k + 1)) % 900

-- the moment before arrival k
unfoldable pub moment_before : ℕ → ℕ → ℕ
moment_before x zero = 1000
moment_before x (suc k) = moment_before x k + gap x k

-- the line of arrival k
unfoldable pub line_of : ℕ → ℕ → ℕ → ℕ
line_of x n k = high_bits (draw x (2 * k + 2)) % n

-- arrival k
abbrev pub arrival : ℕ → ℕ → ℕ → Arrival
arrival x n k = record { at = moment_before x k + gap x k; line = line_of x n k }

-- the first arrivals, so many
unfoldable pub first_arrivals : ℕ → ℕ → ℕ → List Arrival
first_arrivals x n count = map (arrival x n) (range_with_len 0 count)

-- All arrivals. Their draws go on from those of the source, which are n - 1.
abbrev pub arrivals : ℕ → ℕ → List Arrival
arrivals seed n = first_arrivals (draw seed (n - 1)) n 1000

-- the owners of lines where there are so many tasks and no counter
abbrev pub owners_of : ℕ → Owners
owners_of tasks = record { tasks = tasks; counters = 0 }
