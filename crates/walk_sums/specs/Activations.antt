-- Walks inside a function's activation, item by item, and where the task is raised on them.
use Rattle.std.specs.Prelude.{ℕ, ◌+◌, ◌≡◌, cond, map, Bool, true, false, Option, None}
use Rattle.sloth_base.specs.declared.config.Config.{Config}
use Rattle.sloth_base.specs.declared.app.App.{App}
use Rattle.sloth_base.specs.declared.app.Op.{Op}
use Rattle.sloth_base.specs.declared.app.Op.TheVariants as op
use Rattle.sloth_base.specs.Named.{function}
use Rattle.code_rules.specs.Code.{IsItem, IsPathStep}
use Rattle.code_rules.specs.WellFormed.{held_list_before}
use Rattle.osek_scheduler.specs.Priority.{greatest, ceiling}
use Rattle.osek_blocking.specs.Walks.{chains_itself}
use Rattle.bound_rules.specs.Items.{reaches_level}

-- ---- where the task is raised

-- the greatest ceiling of what function f itself holds before item i, 0 where it holds nothing
abbrev pub ceiling_before : Config → App → (f i : ℕ) → ℕ
ceiling_before config app f i = greatest (map (ceiling config) (held_list_before app f i))

-- the task is raised before item i of function f
abbrev pub is_raised : Config → App → (level : Option ℕ) → (f i : ℕ) → Bool
is_raised config app level f i = reaches_level level (ceiling_before config app f i)

-- the level of a function that is called where the task is raised, or is not
abbrev pub called_level : (raised : Bool) → (level : Option ℕ) → Option ℕ
called_level raised level = cond raised None level

-- ---- walks

-- neither a call nor a `ret`
abbrev pub is_plain : Op → Bool
is_plain (op.Invoke g) = false
is_plain op.Return = false
is_plain _ = true

-- from item i of function f, neither a call nor a `ret`, a walk goes on to item j
pub record IsInnerStep (app : App) (f i j : ℕ) : Type 0 where
  pub operation : Op
  pub item : IsItem app f i operation
  pub plain : is_plain operation ≡ true
  pub goes_on : IsPathStep (function app f) i j
  pub stays : chains_itself (function app f) operation ≡ false

-- a walk that enters function f reaches item i of it, the functions that it calls on the way having returned
pub data ReachesItem (app : App) : (f i : ℕ) → Type 0 where
  reaches_first : (f : ℕ) → ReachesItem app f 0
  reaches_inside : (f i j : ℕ) → ReachesItem app f i → IsInnerStep app f i j → ReachesItem app f j
  reaches_behind : (f i g r : ℕ) → ReachesItem app f i → IsItem app f i (op.Invoke g) → ReachesItem app g r → IsItem app g r op.Return
      → ReachesItem app f (i + 1)

-- a walk that enters function g may return from it
abbrev pub CanReturn : App → (g : ℕ) → Type 0
CanReturn app g = (r : ℕ) × ReachesItem app g r × IsItem app g r op.Return

-- at item i of function f, a call of function g, the task is raised
pub record IsRaisedCall (config : Config) (app : App) (level : Option ℕ) (f i g : ℕ) : Type 0 where
  pub item : IsItem app f i (op.Invoke g)
  pub raised : is_raised config app level f i ≡ true

-- a walk that enters function f reaches its item i, a call of function g
pub record ReachesCall (app : App) (f i g : ℕ) : Type 0 where
  pub reached : ReachesItem app f i
  pub item : IsItem app f i (op.Invoke g)

-- the level of a function that is called at item i of function f
abbrev pub level_behind : Config → App → (level : Option ℕ) → (f i : ℕ) → Option ℕ
level_behind config app level f i = called_level (is_raised config app level f i) level
