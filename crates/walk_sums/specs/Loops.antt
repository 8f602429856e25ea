-- Loops along which something weighs, and sizes of trails where none does.
use Rattle.std.specs.Prelude.{ℕ, ◌-◌, ◌<◌, ◌≤◌, ◌≡◌, ◌||◌, leb, ltb, cond, min, Bool, true, false, List, length, get_or, sum_by, Option, Some, None}
use Rattle.sloth_base.specs.Limits.{size_limit}
use Rattle.walk_sums.specs.declared.graph.Ways.{Ways}
use Rattle.walk_sums.specs.Graph.{ways_of, HasWay}
use Rattle.walk_sums.specs.Search.{IsReachable}
use Rattle.walk_sums.specs.Trails.{size_of_trail, IsEnded, AreSizesInLimit, longest_from}

-- ---- loops

-- one way of a node leads to another one from which this one is reached
pub record LeadsBack (ways : List Ways) (node : ℕ) : Type 0 where
  pub next : ℕ
  pub goes : HasWay ways node next
  pub back : IsReachable ways next node

-- a node that weighs something leads back to itself
pub record IsWeighingLoop (ways : List Ways) (steps : List ℕ) (node : ℕ) : Type 0 where
  pub inside : node < length ways
  pub weighs : 0 < get_or steps node 0
  pub back : LeadsBack ways node

-- some node does
abbrev pub HasWeighingLoop : List Ways → (steps : List ℕ) → Type 0
HasWeighingLoop ways steps = (node : ℕ) × IsWeighingLoop ways steps node

-- ---- ranks of nodes

-- a way leads to a rank that is too great: above that of its node, or no less where the node weighs something
abbrev pub raises : (ranks : List ℕ) → (step from : ℕ) → Option ℕ → Bool
raises ranks step from None = false
raises ranks step from (Some j) = cond (ltb 0 step) (leb from (get_or ranks j 0)) (ltb from (get_or ranks j 0))

-- one of the ways of node i does
abbrev pub raises_at : List Ways → (steps ranks : List ℕ) → ℕ → Bool
raises_at ways steps ranks i =
    raises ranks (get_or steps i 0) (get_or ranks i 0) (ways_of ways i).next || raises ranks (get_or steps i 0) (get_or ranks i 0) (ways_of ways i).jump

-- ---- tables of sizes

-- some trail from a node has this size
abbrev pub IsSizeOf : List Ways → (steps ends : List ℕ) → (i size : ℕ) → Type 0
IsSizeOf ways steps ends i size = (further : List ℕ) × IsEnded ways ends i further × (min size_limit (size_of_trail steps ends i further) ≡ size)

-- each entry that is not 0 is the size of some trail
pub record AreAttained (ways : List Ways) (steps ends table : List ℕ) : Type 0 where
  pub count : length table ≡ length ways
  pub small : AreSizesInLimit table
  pub each : (i : ℕ) → 0 < get_or table i 0 → IsSizeOf ways steps ends i (get_or table i 0)

-- none is less than what the ways of its node say
abbrev pub IsSettled : List Ways → (steps ends table : List ℕ) → Type 0
IsSettled ways steps ends table = (i : ℕ) → i < length ways → longest_from ways table steps ends i ≤ get_or table i 0

-- how much all entries may grow
abbrev pub slack : (table : List ℕ) → ℕ
slack table = sum_by (λ size. size_limit - size) table

-- a table has grown, or it is the same and what the ways of the nodes from one on say is not more
abbrev pub HasGrown : List Ways → (steps ends old new : List ℕ) → (first : ℕ) → Bool → Type 0
HasGrown ways steps ends old new first true = slack new < slack old
HasGrown ways steps ends old new first false = (new ≡ old) × ((i : ℕ) → first ≤ i → i < length ways → longest_from ways new steps ends i ≤ get_or new i 0)
