-- A search from a node.
use Rattle.std.specs.Prelude.{ℕ, ◌<◌, ◌≡◌, ◌⊎◌, true, Bool, List, length}
use Rattle.code_rules.specs.Code.{is_in}
use Rattle.walk_sums.specs.declared.graph.Ways.{Ways}
use Rattle.walk_sums.specs.Graph.{HasWay, HasMark}

-- the node itself, and what a node leads to that is reached
pub data IsReachable (ways : List Ways) (first : ℕ) : ℕ → Type 0 where
  reachable_first : IsReachable ways first first
  reachable_on : (i j : ℕ) → IsReachable ways first i → HasWay ways i j → IsReachable ways first j

-- what is marked is reached; of each marked node that is not in the stack all ways lead to marked ones
pub record IsSpreading (ways : List Ways) (first : ℕ) (marks : List Bool) (stack : List ℕ) : Type 0 where
  pub count : length marks ≡ length ways
  pub start : HasMark marks first
  pub sound : (i : ℕ) → HasMark marks i → IsReachable ways first i
  pub kept : (i : ℕ) → is_in i stack ≡ true → (i < length ways) × HasMark marks i
  pub closed : (i : ℕ) → HasMark marks i → (is_in i stack ≡ true) ⊎ ((j : ℕ) → HasWay ways i j → HasMark marks j)
