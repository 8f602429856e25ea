-- What is computed of uses, from the tasks that reach each function.
use Rattle.std.specs.Prelude.{ℕ, ◌&&◌, ◌||◌, Bool, List, length, get_or}
use Rattle.std.specs.List.{list_any}
use Rattle.sloth_base.specs.declared.config.Config.{Config}
use Rattle.sloth_base.specs.declared.app.App.{App}
use Rattle.sloth_base.specs.declared.app.Func.{Func}
use Rattle.call_graph.specs.Bits.{is_member}
use Rattle.call_graph.specs.Reached.{any_below, func_of}
use Rattle.shares_text.specs.declared.unused.Kind.{Kind}
use Rattle.shares_text.specs.Uses.{is_use, is_declared_use}

-- one of the first so many tasks is in the set
abbrev pub has_task : (tasks set : ℕ) → Bool
has_task tasks set = any_below tasks (λ t. is_member set t)

-- an item of this function uses it
abbrev pub is_function_use : Config → Kind → ℕ → Func → Bool
is_function_use config k n f = list_any (λ item. is_use config k n item.op) f.items

-- a function that a task reaches does, by the sets of tasks that reach each
abbrev pub is_code_use : Config → List Func → (users : List ℕ) → Kind → ℕ → Bool
is_code_use config funcs users k n =
    any_below (length funcs) (λ f. has_task (length config.tasks) (get_or users f 0) && is_function_use config k n (func_of funcs f))

-- it is used
abbrev pub is_used_by : Config → App → (users : List ℕ) → Kind → ℕ → Bool
is_used_by config app users k n = is_declared_use config app k n || is_code_use config app.funcs users k n
