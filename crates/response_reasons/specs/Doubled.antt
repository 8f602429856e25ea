-- Nodes twice: once before something has weighed on the way, and once afterwards.
use Rattle.std.specs.Prelude.{ℕ, ◌+◌, ◌<◌, ◌≡◌, ltb, cond, List, length, get_or, Option, Some, None}
use Rattle.walk_sums.specs.declared.graph.Ways.{Ways}
use Rattle.walk_sums.specs.Graph.{ways_of}

-- the same way among the second nodes, behind so many first ones
abbrev pub second_way : (count : ℕ) → Option ℕ → Option ℕ
second_way count None = None
second_way count (Some j) = Some (count + j)

abbrev pub second_ways : (count : ℕ) → Ways → Ways
second_ways count w = record { next = second_way count w.next; jump = second_way count w.jump }

-- from a first node that weighs something they lead to second ones
abbrev pub first_ways : List Ways → (steps : List ℕ) → (i : ℕ) → Ways
first_ways ways steps i = cond (ltb 0 (get_or steps i 0)) (second_ways (length ways) (ways_of ways i)) (ways_of ways i)

-- the first nodes with their ways
pub record AreFirst (ways : List Ways) (steps : List ℕ) (twice : List Ways) : Type 0 where
  pub count : length twice ≡ length ways
  pub first : (i : ℕ) → i < length ways → ways_of twice i ≡ first_ways ways steps i

-- both
pub record AreDoubled (ways : List Ways) (steps : List ℕ) (twice : List Ways) : Type 0 where
  pub count : length twice ≡ length ways + length ways
  pub first : (i : ℕ) → i < length ways → ways_of twice i ≡ first_ways ways steps i
  pub second : (i : ℕ) → i < length ways → ways_of twice (length ways + i) ≡ second_ways (length ways) (ways_of ways i)
