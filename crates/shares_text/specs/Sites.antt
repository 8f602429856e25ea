-- The items that call functions or use symbols, with what their own function holds there.
use Rattle.std.specs.Prelude.{ℕ, zero, suc, ◌+◌, ◌<◌, ◌≡◌, ◌==◌, ◌++◌, List, [], ◌∷◌, Bool, length, map, filter, get_or, Option, Some, None}
use Rattle.sloth_base.specs.declared.config.Config.{Config}
use Rattle.sloth_base.specs.declared.app.App.{App}
use Rattle.sloth_base.specs.declared.app.Func.{Func}
use Rattle.sloth_base.specs.declared.app.Item.{Item}
use Rattle.sloth_base.specs.declared.app.Op.{Op}
use Rattle.sloth_base.specs.declared.app.Op.TheVariants as op
use Rattle.sloth_base.specs.Named.{function, operation, item_of}
use Rattle.code_rules.specs.Code.{IsItem, held_list_at, is_in}
use Rattle.code_rules.specs.WellFormed.{held_list_before}
use Rattle.osek_scheduler.specs.Priority.{greatest, ceiling}
use Rattle.call_graph.specs.Bits.{is_member}
use Rattle.shares_text.specs.declared.sites.Held.{Held}
use Rattle.shares_text.specs.declared.sites.HeldRow.{HeldRow}
use Rattle.shares_text.specs.declared.sites.Access.{Access}
use Rattle.shares_text.specs.declared.sites.CallSite.{CallSite}
use Rattle.shares_text.specs.Accesses.{symbol_of, is_store}

-- ---- what a function itself holds

-- the set has exactly the resources of the list
abbrev pub HasMembers : (members : ℕ) → List ℕ → Type 0
HasMembers members held = (r : ℕ) → r < 64 → is_member members r ≡ is_in r held

-- the set of a list of resources, and their greatest ceiling
pub record IsHeld (config : Config) (held : List ℕ) (h : Held) : Type 0 where
  pub members : HasMembers h.members held
  pub top : h.top ≡ greatest (map (ceiling config) held)

-- what stands in the place of an item that is not there
abbrev pub no_held : Held
no_held = record { members = 0; top = 0 }

-- what the function itself holds before each of its items
pub record AreHeld (config : Config) (f : Func) (rows : List Held) : Type 0 where
  pub count : length rows ≡ length f.items
  pub each : (i : ℕ) → i < length f.items → IsHeld config (held_list_at f i) (get_or rows i no_held)

-- what stands in the place of a function that is not there
abbrev pub no_row : HeldRow
no_row = record { items = [] }

-- the same of all functions
pub record AreAllHeld (config : Config) (app : App) (table : List HeldRow) : Type 0 where
  pub count : length table ≡ length app.funcs
  pub each : (f : ℕ) → f < length app.funcs → AreHeld config (function app f) (get_or table f no_row).items

-- ---- lists of items

-- what items of function f give, from item i on, each with what the function holds there
abbrev pub gather_items : {X : Type 0} → ((f i : ℕ) → Item → Held → List X) → (f i : ℕ) → List Item → List Held → List X
gather_items at f i [] rows = []
gather_items at f i (x ∷ items) rows = at f i x (get_or rows i no_held) ++ gather_items at f (i + 1) items rows

-- what those of all functions give, from function f on
abbrev pub gather : {X : Type 0} → ((f i : ℕ) → Item → Held → List X) → (f : ℕ) → List Func → List HeldRow → List X
gather at f [] table = []
gather at f (func ∷ funcs) table = gather_items at f 0 func.items (get_or table f no_row).items ++ gather at (f + 1) funcs table

-- the call that an operation may be
abbrev pub call_of : (f i : ℕ) → Op → Held → List CallSite
call_of f i (op.Invoke g) h = record { caller = f; item = i; callee = g; held = h } ∷ []
call_of f i _ h = []

-- that an item may be
abbrev pub call_at : (f i : ℕ) → Item → Held → List CallSite
call_at f i x h = call_of f i x.op h

-- the access of a symbol, if there is one
abbrev pub access_to : Option ℕ → (f i : ℕ) → Item → Held → List Access
access_to None f i x h = []
access_to (Some y) f i x h = record { func = f; item = i; line = x.line; symbol = y; stores = is_store x.op; held = h } ∷ []

-- the access that an item may be
abbrev pub access_at : (f i : ℕ) → Item → Held → List Access
access_at f i x h = access_to (symbol_of x.op) f i x h

-- ---- order

-- the caller has this rank
abbrev pub is_of_rank : (ranks : List ℕ) → (rank : ℕ) → CallSite → Bool
is_of_rank ranks rank c = get_or ranks c.caller 0 == rank

-- the calls of callers of this rank, then those of lower ranks, down to 0
abbrev pub down_from : (ranks : List ℕ) → List CallSite → (rank : ℕ) → List CallSite
down_from ranks calls zero = filter (is_of_rank ranks 0) calls
down_from ranks calls (suc rank) = filter (is_of_rank ranks (suc rank)) calls ++ down_from ranks calls rank

-- ---- what they are

-- a call, with what its function holds there
pub record IsCallSite (config : Config) (app : App) (c : CallSite) : Type 0 where
  pub is : IsItem app c.caller c.item (op.Invoke c.callee)
  pub held : IsHeld config (held_list_before app c.caller c.item) c.held

-- an item that uses a symbol, the same way
pub record IsAccess (config : Config) (app : App) (a : Access) : Type 0 where
  pub known : a.func < length app.funcs
  pub inside : a.item < length (function app a.func).items
  pub symbol : symbol_of (operation app a.func a.item) ≡ Some a.symbol
  pub line : a.line ≡ (item_of (function app a.func) a.item).line
  pub stores : a.stores ≡ is_store (operation app a.func a.item)
  pub held : IsHeld config (held_list_before app a.func a.item) a.held
