-- Ways through a body on which each item keeps the rules on resources, and what such a way holds.
use Rattle.std.specs.Prelude.{ℕ, ◌+◌, ◌-◌, ◌<◌, ◌≡◌, ◌&&◌, not, Bool, true, false, List, [], ◌∷◌, length, Option, Some, None, get_or}
use Rattle.sloth_base.specs.declared.app.Func.{Func}
use Rattle.sloth_base.specs.declared.app.Op.{Op}
use Rattle.sloth_base.specs.declared.app.Op.TheVariants as op
use Rattle.sloth_base.specs.Named.{item_of, label_of}
use Rattle.code_rules.specs.Code.{IsPathStep, held_after, held_list_at, is_in}
use Rattle.call_graph.specs.Rows.{is_get}
use Rattle.task_verify.specs.Tests.{is_wrong_release}
use Rattle.task_verify.specs.Labels.{last_label_below}
use Rattle.fault_witnesses.specs.declared.witnesses.Way.{Way}

-- a service that takes what is held
abbrev pub is_own_second_take : List ℕ → Op → Bool
is_own_second_take held (op.Serve call) = is_get call.service && is_in call.object held
is_own_second_take held _ = false

-- With these held, the operation takes none of them, and releases none but the last.
abbrev pub is_orderly : List ℕ → Op → Bool
is_orderly held o = not (is_wrong_release held o) && not (is_own_second_take held o)

-- what is held behind item i
abbrev pub held_list_behind : Func → ℕ → List ℕ
held_list_behind f i = held_after (item_of f i).op (held_list_at f i)

-- each label at place k has this list
abbrev pub LabelsHave : Func → ℕ → List ℕ → Type 0
LabelsHave f k held = (l : ℕ) → l < length f.labels → (label_of f l).item ≡ k → (label_of f l).holds ≡ held

-- Item i goes on or jumps to item k. It takes nothing twice and releases the last one taken, if any; and what is held behind it is what is held at k, and the list of every label there.
pub record IsCleanStep (f : Func) (i k : ℕ) : Type 0 where
  pub goes : IsPathStep f i k
  pub inside : k < length f.items
  pub orderly : is_orderly (held_list_at f i) (item_of f i).op ≡ true
  pub held : held_list_at f k ≡ held_list_behind f i
  pub labels : LabelsHave f k (held_list_at f k)

-- item n of a way
abbrev pub way_item : List ℕ → ℕ → ℕ
way_item way n = get_or way n 0

-- the way begins with this item, each item steps cleanly to the next, and the last one is the goal
pub record IsCleanWay (f : Func) (first goal : ℕ) (way : List ℕ) : Type 0 where
  pub some : 0 < length way
  pub starts : way_item way 0 ≡ first
  pub steps : (n : ℕ) → n + 1 < length way → IsCleanStep f (way_item way n) (way_item way (n + 1))
  pub ends : way_item way (length way - 1) ≡ goal

-- a clean way from the first item, at which nothing is held
pub record IsWayFromBegin (f : Func) (goal : ℕ) (way : List ℕ) : Type 0 where
  pub steps : IsCleanWay f 0 goal way
  pub nothing : held_list_at f 0 ≡ []

-- a clean way from the item behind label k, the last one there
pub record IsWayFromLabel (f : Func) (k goal : ℕ) (way : List ℕ) : Type 0 where
  pub last : last_label_below f.labels (label_of f k).item (length f.labels) ≡ Some k
  pub steps : IsCleanWay f (label_of f k).item goal way

-- a way by where it starts
abbrev pub IsWayFrom : Func → Option ℕ → ℕ → List ℕ → Type 0
IsWayFrom f None goal way = IsWayFromBegin f goal way
IsWayFrom f (Some k) goal way = IsWayFromLabel f k goal way

-- a clean way to the goal, if one is shown
abbrev pub IsShownWay : Func → ℕ → Option Way → Type 0
IsShownWay f goal None = Unit {0}
IsShownWay f goal (Some way) = IsWayFrom f way.label goal way.items

-- ---- what a way holds

-- what is held before the last of these items, with this before the first
abbrev pub held_along : Func → List ℕ → (first : ℕ) → List ℕ → List ℕ
held_along f held i [] = held
held_along f held i (k ∷ way) = held_along f (held_after (item_of f i).op held) k way

-- the list with which a way starts
abbrev pub start_list : Func → Option ℕ → List ℕ
start_list f None = []
start_list f (Some k) = (label_of f k).holds
