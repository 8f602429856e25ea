-- How many nodes are not seen yet.
use Rattle.std.specs.Prelude.{ℕ, not, Bool, List, count_by}

-- how many nodes are not seen yet
abbrev pub unseen_count : List Bool → ℕ
unseen_count seen = count_by not seen
