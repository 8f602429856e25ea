-- Where task code goes, and what is held on the way: items, chains of calls, paths, and the list of held resources before each item.
use Rattle.std.specs.Prelude.{ℕ, zero, suc, ◌+◌, ◌<◌, ◌≡◌, ◌⊎◌, ◌==◌, ◌++◌, ◌||◌, not, Bool, true, false, cond, List, [], ◌∷◌, length, Option, Some, None, take}
use Rattle.sloth_base.specs.declared.app.App.{App}
use Rattle.sloth_base.specs.declared.app.Func.{Func}
use Rattle.sloth_base.specs.declared.app.Label.{Label}
use Rattle.sloth_base.specs.declared.app.Op.{Op}
use Rattle.sloth_base.specs.declared.app.Op.TheVariants as op
use Rattle.sloth_base.specs.declared.service.Service.{Service}
use Rattle.sloth_base.specs.declared.service.Service.TheVariants as service
use Rattle.sloth_base.specs.Named.{function, item_of, operation, label_of, body_of, IsBodyOf}

-- ---- items

-- item i of body f does this
pub record IsItem (app : App) (f i : ℕ) (o : Op) : Type 0 where
  pub known : f < length app.funcs
  pub inside : i < length (function app f).items
  pub is : operation app f i ≡ o

-- a service with its object and its mask of events
abbrev pub service_op : Service → (object mask : ℕ) → Op
service_op s object mask = op.Serve (record { service = s; object = object; mask = mask })

-- ---- calls

-- function f calls function g
abbrev pub HasCall : App → ℕ → ℕ → Type 0
HasCall app f g = (i : ℕ) × IsItem app f i (op.Invoke g)

-- f calls the first of these, each calls the next, and the last calls g
abbrev pub IsCallChain : App → ℕ → List ℕ → ℕ → Type 0
IsCallChain app f [] g = HasCall app f g
IsCallChain app f (h ∷ between) g = HasCall app f h × IsCallChain app h between g

-- g is f, or there is a chain of calls from f to g
abbrev pub Reaches : App → ℕ → ℕ → Type 0
Reaches app f g = (f ≡ g) ⊎ ((between : List ℕ) × IsCallChain app f between g)

-- the body of task t reaches function f
abbrev pub TaskReaches : App → ℕ → ℕ → Type 0
TaskReaches app t f = (b : ℕ) × IsBodyOf app t b × Reaches app b f

-- Function f was called by the first of these functions, that one by the next, and so on. Without a caller f is the body of task t.
abbrev pub IsCalledBy : App → (t f : ℕ) → (callers : List ℕ) → Type 0
IsCalledBy app t f [] = f ≡ body_of app.funcs t
IsCalledBy app t f (caller ∷ outer) = HasCall app caller f × IsCalledBy app t caller outer

-- a service in which the caller may wait, or let others run
abbrev pub IsPausing : Service → Type 0
IsPausing s = (s ≡ service.WaitEvent) ⊎ (s ≡ service.Schedule)

-- a service that ends the caller
abbrev pub IsEnding : Service → Type 0
IsEnding s = (s ≡ service.TerminateTask) ⊎ (s ≡ service.ChainTask)

-- function f reaches an item that takes resource r
abbrev pub ReachesTaking : App → ℕ → ℕ → Type 0
ReachesTaking app f r = (g : ℕ) × (i : ℕ) × (mask : ℕ) × Reaches app f g × IsItem app g i (service_op service.GetResource r mask)

-- function f reaches a WaitEvent or a Schedule
abbrev pub ReachesPause : App → ℕ → Type 0
ReachesPause app f = (g : ℕ) × (i : ℕ) × (s : Service) × (object : ℕ) × (mask : ℕ) × Reaches app f g × IsItem app g i (service_op s object mask) × IsPausing s

-- ---- paths

-- a service that never returns
abbrev pub ends_for_good : Service → Bool
ends_for_good service.TerminateTask = true
ends_for_good _ = false

-- A path goes on to the next item, except after `j`, `ret` and TerminateTask; ChainTask may answer that it did not end.
abbrev pub is_followed : Op → Bool
is_followed (op.Jump k) = false
is_followed op.Return = false
is_followed (op.Serve call) = not (ends_for_good call.service)
is_followed _ = true

-- the label of a branch or a jump
abbrev pub way : Op → Option ℕ
way (op.Branch kind a b k) = Some k
way (op.Jump k) = Some k
way _ = None

-- from item i of a body a path goes on to item j
abbrev pub IsPathStep : Func → (i j : ℕ) → Type 0
IsPathStep f i j =
    ((is_followed (item_of f i).op ≡ true) × (j ≡ i + 1))
    ⊎ ((k : ℕ) × (way (item_of f i).op ≡ Some k) × (j ≡ (label_of f k).item))

-- a path from item i of a body by way of these items to item j
abbrev pub IsPath : Func → ℕ → List ℕ → ℕ → Type 0
IsPath f i [] j = i ≡ j
IsPath f i (k ∷ between) j = IsPathStep f i k × IsPath f k between j

-- ---- held resources

-- a number is in a list
abbrev pub is_in : ℕ → List ℕ → Bool
is_in x [] = false
is_in x (y ∷ ys) = (y == x) || is_in x ys

-- r is the last of these
abbrev pub is_last : ℕ → List ℕ → Bool
is_last r [] = false
is_last r (x ∷ []) = x == r
is_last r (x ∷ y ∷ ys) = is_last r (y ∷ ys)

-- the list without its last number
abbrev pub without_last : List ℕ → List ℕ
without_last [] = []
without_last (x ∷ []) = []
without_last (x ∷ y ∷ ys) = x ∷ without_last (y ∷ ys)

-- the held resources behind a service that names this one
abbrev pub held_behind : Service → ℕ → List ℕ → List ℕ
held_behind service.GetResource r held = held ++ r ∷ []
held_behind service.ReleaseResource r held = without_last held
held_behind _ r held = held

-- what is held behind an operation, where this is held before it
abbrev pub held_after : Op → List ℕ → List ℕ
held_after (op.Serve call) held = held_behind call.service call.object held
held_after _ held = held

-- what is held behind the labels at place i: the list of the last of them, or what is held without one
abbrev pub held_list_at_labels : ℕ → List Label → List ℕ → List ℕ
held_list_at_labels i [] held = held
held_list_at_labels i (l ∷ labels) held = held_list_at_labels i labels (cond (l.item == i) l.holds held)

-- one of the labels stands at place i, or it is so without one
abbrev pub mark_at_labels : ℕ → List Label → Bool → Bool
mark_at_labels i [] into = into
mark_at_labels i (l ∷ labels) into = mark_at_labels i labels ((l.item == i) || into)

-- What is held before item i: nothing before the first, else what is held behind the item before; but behind a label its list.
abbrev pub held_list_at : Func → ℕ → List ℕ
held_list_at f zero = held_list_at_labels 0 f.labels []
held_list_at f (suc i) = held_list_at_labels (suc i) f.labels (held_after (item_of f i).op (held_list_at f i))

-- what is held where place i is fallen into
abbrev pub held_list_fallen_into : Func → ℕ → List ℕ
held_list_fallen_into f zero = []
held_list_fallen_into f (suc i) = held_after (item_of f i).op (held_list_at f i)

-- place i is fallen into: the body begins there, or the item before may go on to it
abbrev pub is_fallen_into : Func → ℕ → Bool
is_fallen_into f zero = true
is_fallen_into f (suc i) = is_followed (item_of f i).op

-- Label k is fallen into, from a label before it at the same place or as the place is.
abbrev pub is_entered : Func → ℕ → Bool
is_entered f k = let at = (label_of f k).item in mark_at_labels at (take k f.labels) (is_fallen_into f at)

-- what is held where label k is fallen into: the list of the label before it at the same place, or what is held there without one
abbrev pub held_list_entering : Func → ℕ → List ℕ
held_list_entering f k = let at = (label_of f k).item in held_list_at_labels at (take k f.labels) (held_list_fallen_into f at)
