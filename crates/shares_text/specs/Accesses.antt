-- Accesses to symbols, the ways of calls on which a task comes to them, and what it holds there.
use Rattle.std.specs.Prelude.{ℕ, ◌<◌, ◌≤◌, ◌≡◌, [], ◌∷◌, Bool, true, false, length, Option, Some, None}
use Rattle.sloth_base.specs.declared.config.Config.{Config}
use Rattle.sloth_base.specs.declared.app.App.{App}
use Rattle.sloth_base.specs.declared.app.Op.{Op}
use Rattle.sloth_base.specs.declared.app.Op.TheVariants as op
use Rattle.sloth_base.specs.Named.{function, operation, IsBodyOf}
use Rattle.code_rules.specs.Code.{IsItem, is_in}
use Rattle.osek_blocking.specs.Walks.{Place, Position}
use Rattle.osek_blocking.specs.Sections.{held_list_along, priority_at}

-- ---- items

-- the symbol that an operation loads or stores, at a fixed place or under a mask
abbrev pub symbol_of : Op → Option ℕ
symbol_of (op.Load w rd y offset) = Some y
symbol_of (op.Store w rs y offset) = Some y
symbol_of (op.LoadAt w rd y index mask) = Some y
symbol_of (op.StoreAt w rs y index mask) = Some y
symbol_of _ = None

-- it stores
abbrev pub is_store : Op → Bool
is_store (op.Store w rs y offset) = true
is_store (op.StoreAt w rs y index mask) = true
is_store _ = false

-- ---- ways of calls

-- Function f was called by the first of these, which stands at that call, that one by the next, and so on. Without a caller f is the body of task t.
-- All calls in the text count, whatever values registers hold, and as if each came back.
abbrev pub IsCalledFrom : App → (t f : ℕ) → Position → Type 0
IsCalledFrom app t f [] = IsBodyOf app t f
IsCalledFrom app t f (caller ∷ outer) = IsItem app caller.func caller.item (op.Invoke f) × IsCalledFrom app t caller.func outer

-- task t comes to an item that loads or stores symbol y, called from these places
pub record IsUse (app : App) (y t : ℕ) (here : Place) (outer : Position) : Type 0 where
  pub called : IsCalledFrom app t here.func outer
  pub inside : here.item < length (function app here.func).items
  pub accesses : symbol_of (operation app here.func here.item) ≡ Some y

-- task t uses symbol y
abbrev pub Uses : App → (y t : ℕ) → Type 0
Uses app y t = (here : Place) × (outer : Position) × IsUse app y t here outer

-- the access at a place is a store
abbrev pub stores_at : App → Place → Bool
stores_at app here = is_store (operation app here.func here.item)

-- ---- what is held

-- task t holds resource r at a place, whichever way of calls led there
abbrev pub IsAlwaysHeld : App → (t : ℕ) → Place → (r : ℕ) → Type 0
IsAlwaysHeld app t here r = (outer : Position) → IsCalledFrom app t here.func outer → is_in r (held_list_along app (here ∷ outer)) ≡ true

-- on some way of calls the current priority of task t at a place is this, and on none it is less
pub record IsLeastPriority (config : Config) (app : App) (t : ℕ) (here : Place) (least : ℕ) : Type 0 where
  pub outer : Position
  pub called : IsCalledFrom app t here.func outer
  pub is : priority_at config app t (here ∷ outer) ≡ least
  pub none_less : (other : Position) → IsCalledFrom app t here.func other → least ≤ priority_at config app t (here ∷ other)
