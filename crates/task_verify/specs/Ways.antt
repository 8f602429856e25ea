-- The ways between the items of a body.
use Rattle.std.specs.Prelude.{ℕ, ◌+◌, ◌<◌, ◌≡◌, ◌⊎◌, nat_lt, not, Bool, true, false, cond, List, [], ◌∷◌, ◌++◌, length, Option, Some, None, get_or, set, count_by, MatchBool}
use Rattle.sloth_base.specs.declared.app.Func.{Func}
use Rattle.sloth_base.specs.declared.app.Op.{Op}
use Rattle.sloth_base.specs.Named.{item_of, label_of}
use Rattle.code_rules.specs.Code.{is_followed, way, is_in}

-- the label of a branch or jump is one of the body
abbrev pub HasBodyLabel : Func → Op → Type 0
HasBodyLabel f o = (k : ℕ) → way o ≡ Some k → k < length f.labels

-- the place, or the item itself where it is behind the last one
abbrev pub inside_or : Func → (place itself : ℕ) → ℕ
inside_or f place itself = cond (nat_lt place (length f.items)) place itself

-- where item i goes on to the next one; itself, where it does not
abbrev pub next_of : Func → ℕ → ℕ
next_of f i = cond (is_followed (item_of f i).op) (inside_or f (i + 1) i) i

-- the place of a label; the item itself, without a label
abbrev pub label_place : Func → Option ℕ → ℕ → ℕ
label_place f None i = i
label_place f (Some k) i = inside_or f (label_of f k).item i

-- where item i jumps to; itself, where it does not
abbrev pub jump_of : Func → ℕ → ℕ
jump_of f i = label_place f (way (item_of f i).op) i

-- what these ways from the first item reach
pub data IsReachedItem (f : Func) : ℕ → Type 0 where
  first : IsReachedItem f 0
  by_next : (i j : ℕ) → i < length f.items → IsReachedItem f i → next_of f i ≡ j → IsReachedItem f j
  by_jump : (i j : ℕ) → i < length f.items → IsReachedItem f i → jump_of f i ≡ j → IsReachedItem f j

-- ---- marks

-- item i is marked
abbrev pub IsMarked : List Bool → ℕ → Type 0
IsMarked marks i = get_or marks i false ≡ true

-- how many items are not marked
abbrev pub unmarked_count : List Bool → ℕ
unmarked_count marks = count_by not marks

-- a visit marks an item and keeps it, where it is not marked yet
abbrev pub IsMarkVisit : (old new : List Bool) → (pending kept : List ℕ) → (at : ℕ) → Type 0
IsMarkVisit old new pending kept at = MatchBool (get_or old at false)
    ((new ≡ old) × (kept ≡ pending))
    ((new ≡ set old at true) × (kept ≡ pending ++ at ∷ []))

-- what is marked is reached; of each marked item that is not kept both ways are marked
pub record IsMarking (f : Func) (marks : List Bool) (pending : List ℕ) : Type 0 where
  pub count : length marks ≡ length f.items
  pub start : IsMarked marks 0
  pub sound : (i : ℕ) → IsMarked marks i → IsReachedItem f i
  pub kept : (i : ℕ) → is_in i pending ≡ true → (i < length f.items) × IsMarked marks i
  pub closed : (i : ℕ) → IsMarked marks i → (is_in i pending ≡ true) ⊎ (IsMarked marks (next_of f i) × IsMarked marks (jump_of f i))
