-- Nodes with two ways on at most, and a search of them in depth.
use Rattle.std.specs.Prelude.{ℕ, ◌<◌, ◌≡◌, ◌⊎◌, Bool, true, false, cond, List, [], ◌∷◌, length, Option, Some, None, is_some, get_or, take}
use Rattle.code_rules.specs.Code.{is_in}
use Rattle.walk_sums.specs.declared.graph.Ways.{Ways}

-- ---- nodes

-- a node without ways on; it stands in the place of one that is not there
abbrev pub no_ways : Ways
no_ways = record { next = None; jump = None }

-- the ways of a node
abbrev pub ways_of : List Ways → ℕ → Ways
ways_of ways i = get_or ways i no_ways

-- node i leads to node j
abbrev pub HasWay : List Ways → (i j : ℕ) → Type 0
HasWay ways i j = ((ways_of ways i).next ≡ Some j) ⊎ ((ways_of ways i).jump ≡ Some j)

-- all ways lead to nodes that are there
abbrev pub AreInside : List Ways → Type 0
AreInside ways = (i j : ℕ) → HasWay ways i j → j < length ways

-- an order of all nodes in which each stands behind those that it leads to
pub record IsOrder (ways : List Ways) (order : List ℕ) : Type 0 where
  pub all : (i : ℕ) → i < length ways → is_in i order ≡ true
  pub inside : (i : ℕ) → is_in i order ≡ true → i < length ways
  pub behind : (k j : ℕ) → k < length order → HasWay ways (get_or order k 0) j → is_in j (take k order) ≡ true

-- some nodes, each of which leads to one of them
pub record IsLoop (ways : List Ways) (nodes : List ℕ) : Type 0 where
  pub some : (i : ℕ) × (is_in i nodes ≡ true)
  pub inside : (i : ℕ) → is_in i nodes ≡ true → i < length ways
  pub goes : (i : ℕ) → is_in i nodes ≡ true → (j : ℕ) × HasWay ways i j × (is_in j nodes ≡ true)

-- what is found of the nodes: an order, or none where there is a loop
abbrev pub IsFound : List Ways → Option (List ℕ) → Type 0
IsFound ways (Some order) = IsOrder ways order
IsFound ways None = (nodes : List ℕ) × IsLoop ways nodes

-- ---- the search

-- a way, where it leads to a node that is not seen yet
abbrev pub unseen_way : List Bool → Option ℕ → Option ℕ
unseen_way seen None = None
unseen_way seen (Some j) = cond (get_or seen j false) None (Some j)

-- the first of two ways, or the other where there is no first
abbrev pub first_of : Option ℕ → Option ℕ → Option ℕ
first_of None other = other
first_of (Some j) other = Some j

-- a node that node i leads to and that is not seen yet
abbrev pub unseen_of : List Ways → List Bool → ℕ → Option ℕ
unseen_of ways seen i = first_of (unseen_way seen (ways_of ways i).next) (unseen_way seen (ways_of ways i).jump)

-- node i leads to one that is not done
abbrev pub leads_to_open : List Ways → List Bool → ℕ → Bool
leads_to_open ways done i = is_some (unseen_of ways done i)

-- node i leads to the first of these, if there is one
abbrev pub HasWayOn : List Ways → ℕ → List ℕ → Type 0
HasWayOn ways i [] = Unit {0}
HasWayOn ways i (j ∷ further) = HasWay ways i j

-- each of these nodes leads to the next
abbrev pub IsChain : List Ways → List ℕ → Type 0
IsChain ways [] = Unit {0}
IsChain ways (i ∷ further) = HasWayOn ways i further × IsChain ways further

-- what is marked of a list of marks
abbrev pub HasMark : List Bool → ℕ → Type 0
HasMark marks i = get_or marks i false ≡ true

-- the nodes that are seen are in the stack, each leading to the next, or done; those that are done are listed, each behind those that it leads to
pub record IsSearching (ways : List Ways) (seen done : List Bool) (stack order : List ℕ) : Type 0 where
  pub seen_count : length seen ≡ length ways
  pub done_count : length done ≡ length ways
  pub stacked : (i : ℕ) → is_in i stack ≡ true → (i < length ways) × HasMark seen i
  pub held : (i : ℕ) → HasMark seen i → (is_in i stack ≡ true) ⊎ HasMark done i
  pub listed : (i : ℕ) → HasMark done i → is_in i order ≡ true
  pub inside : (i : ℕ) → is_in i order ≡ true → i < length ways
  pub chain : IsChain ways stack
  pub behind : (k j : ℕ) → k < length order → HasWay ways (get_or order k 0) j → is_in j (take k order) ≡ true

-- all that was seen is seen still
abbrev pub AreStillSeen : (old new : List Bool) → Type 0
AreStillSeen old new = (i : ℕ) → HasMark old i → HasMark new i

-- a search ended with a loop, or with an empty stack
abbrev pub IsSearchEnd : List Ways → (old seen done : List Bool) → (stack order : List ℕ) → Bool → Type 0
IsSearchEnd ways old seen done stack order true = (nodes : List ℕ) × IsLoop ways nodes
IsSearchEnd ways old seen done stack order false = (stack ≡ []) × IsSearching ways seen done [] order × AreStillSeen old seen

-- all nodes were searched: there is a loop, or each is listed behind those that it leads to
abbrev pub IsSearched : List Ways → (order : List ℕ) → Bool → Type 0
IsSearched ways order true = (nodes : List ℕ) × IsLoop ways nodes
IsSearched ways order false = IsOrder ways order
