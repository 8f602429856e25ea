-- Lists of calls and accesses, and contexts, of a configuration and its task code.
use Rattle.std.specs.Prelude.{ℕ, ◌<◌, ◌≤◌, ◌≡◌, ◌==◌, ◌&&◌, List, [], ◌∷◌, Bool, true, length, get_or, Some}
use Rattle.std.specs.List.{list_any, AllByRecursion}
use Rattle.sloth_base.specs.declared.config.Config.{Config}
use Rattle.sloth_base.specs.declared.app.App.{App}
use Rattle.sloth_base.specs.declared.app.Op.TheVariants as op
use Rattle.sloth_base.specs.Named.{function, operation}
use Rattle.code_rules.specs.Code.{IsItem}
use Rattle.shares_text.specs.declared.contexts.Contexts.{Contexts}
use Rattle.shares_text.specs.declared.sites.Access.{Access}
use Rattle.shares_text.specs.declared.sites.CallSite.{CallSite}
use Rattle.shares_text.specs.Accesses.{symbol_of}
use Rattle.shares_text.specs.Sites.{IsCallSite, IsAccess}
use Rattle.shares_text.specs.Contexts.{AreContexts}

-- it is the call at item i of function f
abbrev pub is_call_at : (f i : ℕ) → CallSite → Bool
is_call_at f i c = (c.caller == f) && (c.item == i)

-- it is the access there
abbrev pub is_access_at : (f i : ℕ) → Access → Bool
is_access_at f i a = (a.func == f) && (a.item == i)

-- the call of the item is among these
abbrev pub HasCallSite : List CallSite → (f i : ℕ) → Type 0
HasCallSite calls f i = list_any (is_call_at f i) calls ≡ true

-- the ranks of callers do not rise along these
abbrev pub AreDescending : (rank : ℕ → ℕ) → List CallSite → Type 0
AreDescending rank [] = Unit {0}
AreDescending rank (c ∷ calls) = AllByRecursion (λ d. rank d.caller ≤ rank c.caller) calls × AreDescending rank calls

-- all calls of the task code, those of callers first
pub record AreCalls (config : Config) (app : App) (calls : List CallSite) : Type 0 where
  pub each : AllByRecursion (IsCallSite config app) calls
  pub all : (f i g : ℕ) → IsItem app f i (op.Invoke g) → HasCallSite calls f i
  -- numbers of functions, above those of all that they call
  pub rank : ℕ → ℕ
  pub falls : (f i g : ℕ) → IsItem app f i (op.Invoke g) → rank g < rank f
  pub descending : AreDescending rank calls

-- all accesses
pub record AreAccesses (config : Config) (app : App) (accesses : List Access) : Type 0 where
  pub each : AllByRecursion (IsAccess config app) accesses
  pub all : (f i y : ℕ) → f < length app.funcs → i < length (function app f).items → symbol_of (operation app f i) ≡ Some y
      → list_any (is_access_at f i) accesses ≡ true

-- what stands in the place of a task that is not declared
abbrev pub no_contexts : Contexts
no_contexts = record { table = [] }

-- the contexts of each task
pub record AreAllContexts (config : Config) (app : App) (tasks : List Contexts) : Type 0 where
  pub count : length tasks ≡ length config.tasks
  pub each : (t : ℕ) → t < length config.tasks → AreContexts config app t (get_or tasks t no_contexts).table
