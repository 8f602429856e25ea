-- Trails from node to node, their sizes, and the longest ones.
use Rattle.std.specs.Prelude.{ℕ, ◌+◌, ◌<◌, ◌≤◌, ◌≡◌, ◌==◌, cond, min, max, List, [], ◌∷◌, length, Option, Some, None, get_or}
use Rattle.sloth_base.specs.Limits.{size_limit}
use Rattle.walk_sums.specs.declared.graph.Ways.{Ways}
use Rattle.walk_sums.specs.Graph.{ways_of, HasWay}

-- a trail: node i leads to the first of these, and each of them to the next
abbrev pub IsTrail : List Ways → ℕ → List ℕ → Type 0
IsTrail ways i [] = Unit {0}
IsTrail ways i (j ∷ further) = HasWay ways i j × IsTrail ways j further

-- the last node of a trail
abbrev pub last_of : ℕ → List ℕ → ℕ
last_of i [] = i
last_of i (j ∷ further) = last_of j further

-- what the nodes of a trail add that it goes on from, and the one that it ends at
abbrev pub size_of_trail : (steps ends : List ℕ) → ℕ → List ℕ → ℕ
size_of_trail steps ends i [] = get_or ends i 0
size_of_trail steps ends i (j ∷ further) = get_or steps i 0 + size_of_trail steps ends j further

-- a trail that may end where it does: there it adds something
pub record IsEnded (ways : List Ways) (ends : List ℕ) (i : ℕ) (further : List ℕ) : Type 0 where
  pub trail : IsTrail ways i further
  pub adds : 0 < get_or ends (last_of i further) 0

-- a size for each node, none above the greatest that is counted
pub record AreSizes (ways : List Ways) (steps ends : List ℕ) : Type 0 where
  pub steps_count : length steps ≡ length ways
  pub ends_count : length ends ≡ length ways
  pub steps_small : (i : ℕ) → get_or steps i 0 ≤ size_limit
  pub ends_small : (i : ℕ) → get_or ends i 0 ≤ size_limit

-- no size of a table is above the greatest that is counted
abbrev pub AreSizesInLimit : List ℕ → Type 0
AreSizesInLimit table = (i : ℕ) → get_or table i 0 ≤ size_limit

-- the size of the longest trail from a node, or 0 where there is none
pub record IsLongest (ways : List Ways) (steps ends : List ℕ) (i size : ℕ) : Type 0 where
  pub none_longer : (further : List ℕ) → IsEnded ways ends i further → min size_limit (size_of_trail steps ends i further) ≤ size
  pub attained : 0 < size → (further : List ℕ) × IsEnded ways ends i further × (min size_limit (size_of_trail steps ends i further) ≡ size)

-- ---- how it is computed

-- the longest trail that goes on along a way, by a table
abbrev pub along : List ℕ → (step : ℕ) → Option ℕ → ℕ
along table step None = 0
along table step (Some j) = cond (get_or table j 0 == 0) 0 (min size_limit (step + get_or table j 0))

-- the longest trail from node i: it ends there, or goes on along one of its ways
abbrev pub longest_from : List Ways → (table steps ends : List ℕ) → ℕ → ℕ
longest_from ways table steps ends i =
    let step = get_or steps i 0 in
    max (get_or ends i 0) (max (along table step (ways_of ways i).next) (along table step (ways_of ways i).jump))
