-- Bounds of windows of ticks.
use Rattle.std.proofs.Common.{◌≡◌, ℕ, Bool, true, false, Option, sym, ap, ◌∙◌, arith}
use Rattle.run_windows.specs.declared.costs.Costs.{Costs}
use Rattle.run_windows.specs.Costs.{window_limit}
use Rattle.run_windows.specs.Settling.{TakeCounts}
use Rattle.run_windows.proofs.OneBound.{one_bound}
use Rattle.run_responses.specs.TickWindows.{tick_costs, tick_window, greater_number, IsTickNumber}

-- there is no task that takes counts
pub takes_none : (costs : Costs) → TakeCounts (tick_costs costs)
takes_none costs t lt = absurd (omega (arith, lt))

-- there is one such number
pub one_tick_number : (longest late : ℕ) (costs : Costs) (p q : Option ℕ) → IsTickNumber longest late costs p → IsTickNumber longest late costs q → p ≡ q
one_tick_number longest late costs p q (opening, serving, one, other, is) (opens, serves, first, second, same) =
    let E : Option ℕ → Option ℕ → Option ℕ = greater_number longest late in
    let a = one_bound (tick_costs costs) (tick_window longest late costs true) window_limit opening opens tt one first in
    let b = one_bound (tick_costs costs) (tick_window longest late costs false) window_limit serving serves tt other second in
    is ∙ (ap (λ v. E v serving) a ∙ (ap (λ v. E opens v) b ∙ sym same))
