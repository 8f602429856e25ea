-- What is known of each task as it enters each function.
use Rattle.std.specs.Prelude.{ℕ, ◌<◌, ◌≤◌, ◌≡◌, ◌==◌, ◌&&◌, not, max, min, cond, bit_or, bit_and, List, [], ◌∷◌, Bool, true, false, Decides, length, get_or, set}
use Rattle.std.specs.List.{list_any, AllByRecursion}
use Rattle.sloth_base.specs.declared.config.Config.{Config}
use Rattle.sloth_base.specs.declared.app.App.{App}
use Rattle.sloth_base.specs.Limits.{ceiling_count}
use Rattle.sloth_base.specs.Named.{function, item_of}
use Rattle.code_rules.specs.Code.{is_in}
use Rattle.osek_blocking.specs.Walks.{Position, place}
use Rattle.osek_blocking.specs.Sections.{held_list_along, priority_at}
use Rattle.call_graph.specs.Bits.{is_member}
use Rattle.shares_text.specs.declared.sites.Held.{Held}
use Rattle.shares_text.specs.declared.contexts.Context.{Context}
use Rattle.shares_text.specs.declared.sites.CallSite.{CallSite}
use Rattle.shares_text.specs.declared.contexts.Use.{Use}
use Rattle.shares_text.specs.Accesses.{IsCalledFrom, IsUse, IsAlwaysHeld, IsLeastPriority, stores_at}
use Rattle.shares_text.specs.Sites.{no_held}

-- what stands in the place of a call that is not there
abbrev pub no_call : CallSite
no_call = record { caller = 0; item = 0; callee = 0; held = no_held }

-- ---- contexts

-- where no calls lead
abbrev pub no_context : Context
no_context = record { reached = false; held = 0; least = 0 }

-- where the body of a task begins
abbrev pub start_context : (priority : ℕ) → Context
start_context priority = record { reached = true; held = 0; least = priority }

-- the context of the function that is called at an item, from that of the one that calls it
abbrev pub through : Context → Held → Context
through c h = record { reached = c.reached; held = bit_or c.held h.members; least = max h.top c.least }

-- the context over the ways of both
abbrev pub joined : Context → Context → Context
joined one other =
    cond (not other.reached) one
    (cond (not one.reached) other (record { reached = true; held = bit_and one.held other.held; least = min other.least one.least }))

-- the table with the ways through one more call
abbrev pub spread : List Context → CallSite → List Context
spread table c = set table c.callee (joined (get_or table c.callee no_context) (through (get_or table c.caller no_context) c.held))

-- and through more of them, in their order
abbrev pub spread_all : List Context → List CallSite → List Context
spread_all table [] = table
spread_all table (c ∷ calls) = spread_all (spread table c) calls

-- What holds of each way into a function: whether there is one, what is held on each, the least current priority. `Is` says which ways count.
pub record IsContextOf (config : Config) (app : App) (t : ℕ) (Is : Position → Type 0) (c : Context) : Type 0 where
  pub reached : Decides c.reached ((outer : Position) × Is outer)
  pub held : (r : ℕ) → c.reached ≡ true → r < ceiling_count → Decides (is_member c.held r) ((outer : Position) → Is outer → is_in r (held_list_along app outer) ≡ true)
  pub attained : c.reached ≡ true → (outer : Position) × Is outer × (priority_at config app t outer ≡ c.least)
  pub none_less : c.reached ≡ true → (outer : Position) → Is outer → c.least ≤ priority_at config app t outer

-- the context of task t in function f
abbrev pub IsContext : Config → App → (t f : ℕ) → Context → Type 0
IsContext config app t f c = IsContextOf config app t (λ outer. IsCalledFrom app t f outer) c

-- those of task t in all functions
abbrev pub AreContexts : Config → App → (t : ℕ) → List Context → Type 0
AreContexts config app t table = (f : ℕ) → f < length app.funcs → IsContext config app t f (get_or table f no_context)

-- ---- uses

-- what stands in the place of a use that is not there
abbrev pub no_use : Use
no_use = record { task = 0; func = 0; item = 0; line = 0; stores = false; held = 0; least = 0 }

-- a use of symbol y, with what its task holds there on each way of calls, and its least current priority there
pub record IsUseOf (config : Config) (app : App) (y : ℕ) (u : Use) : Type 0 where
  pub outer : Position
  pub is : IsUse app y u.task (place u.func u.item) outer
  pub line : u.line ≡ (item_of (function app u.func) u.item).line
  pub stores : u.stores ≡ stores_at app (place u.func u.item)
  pub held : (r : ℕ) → r < ceiling_count → Decides (is_member u.held r) (IsAlwaysHeld app u.task (place u.func u.item) r)
  pub least : IsLeastPriority config app u.task (place u.func u.item) u.least

-- it is that of task t at item i of function f
abbrev pub is_use_at : (t f i : ℕ) → Use → Bool
is_use_at t f i u = (u.task == t) && ((u.func == f) && (u.item == i))

-- all uses of symbol y by tasks of the configuration
pub record AreUses (config : Config) (app : App) (y : ℕ) (uses : List Use) : Type 0 where
  pub each : AllByRecursion (IsUseOf config app y) uses
  pub declared : AllByRecursion (λ u. u.task < length config.tasks) uses
  pub all : (t f i : ℕ) (outer : Position) → IsUse app y t (place f i) outer → list_any (is_use_at t f i) uses ≡ true
