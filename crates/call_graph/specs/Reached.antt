-- What a function reaches, from its number and its row of bits.
use Rattle.std.specs.Prelude.{ℕ, zero, suc, ◌<◌, ◌≤◌, ◌≡◌, ◌==◌, ◌||◌, ◌&&◌, Bool, true, false, List, length, get_or, Some}
use Rattle.std.specs.List.{list_any}
use Rattle.sloth_base.specs.declared.app.Func.{Func}
use Rattle.sloth_base.specs.Named.{no_function}
use Rattle.sloth_base.specs.Options.{is_number}
use Rattle.sloth_base.specs.Limits.{body_limit}
use Rattle.call_graph.specs.Bits.{is_member}
use Rattle.call_graph.specs.Rows.{is_call, is_taking, is_pause}

-- some number below n passes the test
abbrev pub any_below : ℕ → (ℕ → Bool) → Bool
any_below zero test = false
any_below (suc n) test = any_below n test || test n

-- the function with this number
abbrev pub func_of : List Func → ℕ → Func
func_of funcs f = get_or funcs f no_function

-- ---- what a function does itself

-- an item of function f calls function g
abbrev pub is_direct_call : Func → ℕ → Bool
is_direct_call f g = list_any (λ item. is_call g item.op) f.items

-- an item of function f takes resource r
abbrev pub is_direct_taking : Func → ℕ → Bool
is_direct_taking f r = list_any (λ item. is_taking r item.op) f.items

-- an item of function f is a WaitEvent or a Schedule
abbrev pub is_direct_pause : Func → Bool
is_direct_pause f = list_any (λ item. is_pause item.op) f.items

-- the numbers of the functions that f calls fit a set of 64
abbrev pub CallsFew : Func → Type 0
CallsFew f = (g : ℕ) → is_direct_call f g ≡ true → g < 64

-- so do those of the resources that it takes
abbrev pub TakesFew : Func → Type 0
TakesFew f = (r : ℕ) → is_direct_taking f r ≡ true → r < 64

-- and that of its task fits a set of 32
abbrev pub IsOfFew : Func → Type 0
IsOfFew f = (t : ℕ) → f.task ≡ Some t → t < 32

-- the numbers of functions, resources and tasks fit their sets
pub record AreFew (funcs : List Func) : Type 0 where
  pub count : length funcs ≤ body_limit
  pub calls : (f : ℕ) → f < length funcs → CallsFew (func_of funcs f)
  pub resources : (f : ℕ) → f < length funcs → TakesFew (func_of funcs f)
  pub tasks : (f : ℕ) → f < length funcs → IsOfFew (func_of funcs f)

-- ---- what it reaches

-- the function with this number and this row is the other, or reaches it
abbrev pub reaches_by : (from row to : ℕ) → Bool
reaches_by from row to = (from == to) || is_member row to

-- the function with this number and this row reaches taking resource r
abbrev pub takes_by : List Func → (from row r : ℕ) → Bool
takes_by funcs from row r = any_below (length funcs) (λ g. reaches_by from row g && is_direct_taking (func_of funcs g) r)

-- the function with this number and this row reaches a WaitEvent or a Schedule
abbrev pub pauses_by : List Func → (from row : ℕ) → Bool
pauses_by funcs from row = any_below (length funcs) (λ g. reaches_by from row g && is_direct_pause (func_of funcs g))

-- the body of task t reaches the function
abbrev pub used_by : List Func → List ℕ → (to t : ℕ) → Bool
used_by funcs rows to t = any_below (length funcs) (λ b. reaches_by b (get_or rows b 0) to && is_number t (func_of funcs b).task)
