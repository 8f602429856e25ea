-- Whether an item of a body, and of all bodies, calls a service for an alarm.
use Rattle.std.proofs.Common.{◌≡◌, ℕ, ◌<◌, ◌≤◌, false, length, ap, sym, ◌∙◌, arith, ⊎_elim}
use Rattle.std.proofs.lemmas.Bool.{cases_lt, true≢false}
use Rattle.std.proofs.lemmas.List.{get_or_past}
use Rattle.sloth_base.specs.declared.app.App.{App}
use Rattle.sloth_base.specs.declared.app.Func.{Func}
use Rattle.sloth_base.specs.declared.app.Item.{Item}
use Rattle.sloth_base.specs.declared.service.Service.{Service}
use Rattle.sloth_base.specs.Named.{item_of, function, no_item, no_function}
use Rattle.walk_sums.specs.Counted.{calls_for}
use Rattle.run_costs.specs.CostsOf.{Names}

-- no item of the body does
pub none_in : (a : ℕ) (s : Service) (func : Func) (n : ℕ) → length func.items ≤ n → ((i : ℕ) → i < n → calls_for a s (item_of func i).op ≡ false) → (i : ℕ) → calls_for a s (item_of func i).op ≡ false
none_in a s func n le none i = ⊎_elim (λ lt. none i lt) (λ past. ap (λ (x : Item). calls_for a s x.op) (get_or_past func.items i no_item (omega (arith, le, past)))) (cases_lt i n)

-- no item of any body does
pub none_at_all : (a : ℕ) (s : Service) (app : App) (n : ℕ) → length app.funcs ≤ n → ((f : ℕ) → f < n → (i : ℕ) → calls_for a s (item_of (function app f) i).op ≡ false) → ¬ (Names app s a)
none_at_all a s app n le none (f, i, e) = true≢false (sym e ∙ at)
  where
    at : calls_for a s (item_of (function app f) i).op ≡ false
    at = ⊎_elim (λ lt. none f lt i)
        (λ past. ap (λ (x : Func). calls_for a s (item_of x i).op) (get_or_past app.funcs f no_function (omega (arith, le, past)))) (cases_lt f n)
