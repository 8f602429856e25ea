-- What the names of task source stand for, where objects of their kinds exist.
use Rattle.std.specs.Prelude.{◌≡◌, ◌<◌, ℕ, true, List, length, get_or, Some}
use Rattle.sloth_base.specs.declared.app.App.{App}
use Rattle.sloth_base.specs.declared.app.Func.{Func}
use Rattle.sloth_base.specs.declared.config.Config.{Config}
use Rattle.asm_scopes.specs.declared.scope.Kind.TheVariants as kind
use Rattle.asm_scopes.specs.declared.scope.Scope.{Scope}
use Rattle.asm_scopes.specs.Scopes.{is_named}
use Rattle.asm_parse.specs.Operations.{number_of, resource_number, mask_by}
use Rattle.code_rules.specs.AppRange.{IsSymbol, IsLabel, IsCallable, IsDeclared, IsResource, IsDeclaredAlarm}
use Rattle.sloth_base.specs.ConfigRange.{no_event}

-- the event of a name
pub record IsEvent (config : Config) (scope : Scope) (name : List ℕ) : Type 0 where
  pub place : ℕ
  pub declared : place < length config.events
  pub same : mask_by config scope (Some name) ≡ (get_or config.events place no_event).mask

-- in a body with these labels the number of each name that exists is in range
pub record IsKnown (config : Config) (app : App) (f : Func) (scope : Scope) (labels : List (List ℕ)) : Type 0 where
  pub symbol : (name : List ℕ) → is_named scope labels kind.Symbol name ≡ true → IsSymbol app (number_of scope.symbols name)
  pub label : (name : List ℕ) → is_named scope labels kind.Label name ≡ true → IsLabel f (number_of labels name)
  pub function : (name : List ℕ) → is_named scope labels kind.Function name ≡ true → IsCallable app (number_of scope.functions name)
  pub task : (name : List ℕ) → is_named scope labels kind.Task name ≡ true → IsDeclared config (number_of scope.tasks name)
  pub resource : (name : List ℕ) → is_named scope labels kind.Resource name ≡ true → IsResource config (resource_number scope name)
  pub alarm : (name : List ℕ) → is_named scope labels kind.Alarm name ≡ true → IsDeclaredAlarm config (number_of scope.alarms name)
  pub event : (name : List ℕ) → is_named scope labels kind.Event name ≡ true → IsEvent config scope name
