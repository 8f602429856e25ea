use Rattle.std.proofs.Common.{ℕ, ◌≤◌, ◌+◌, List, drop, length, get_or, sym, subst, arith}
use Rattle.std.proofs.lemmas.List.{at_drop_all}
use Rattle.run_windows.specs.declared.costs.CounterCosts.{CounterCosts}
use Rattle.run_windows.specs.Arrivals.{arrivals, tick_counts}
use Rattle.run_windows.specs.Cycles.{IsCurve}
use Rattle.run_windows.proofs.Monotone.{arrivals_more}
use Rattle.run_windows.proofs.LowerBounds.{Part, part_end, tick_step, whole_rate}
use Rattle.run_windows.proofs.curves.with_ticks.Goals as goal

pub loop-counter-preserved : goal.loop-counter-preserved
loop-counter-preserved c more y start le =
    let i = c.loop-counter.counter-index in
    let xs = c.items-counter-items.result.now in
    let e = c.items-counter-items.ensures in
    let F : List CounterCosts → ℕ = λ l. tick_counts more l in
    let so_far = subst (λ (l : List CounterCosts). Part (IsCurve c.loop-counter.sum more) (F (drop i l)) (y + F l)) (sym e) (c.loop-counter.invariant more y start le) in
    let distance = (get_or xs i _).distance in
    let ticks = c.arrivals-ticks.ensures in
    let more_ticks = arrivals_more distance le in
    subst (λ (l : List CounterCosts). Part (IsCurve c.with_more-sum.result more) (F (drop (i + 1) l)) (y + F l)) e
    (tick_step c.with_more-sum.result more _ i so_far.0 c.from.result _ xs c.loop-counter-test.true c.from.ensures
    (c.with_more-sum.ensures more (arrivals more distance) so_far.0 (omega (arith, ticks, more_ticks)) (c.arrival_rate-rate.ensures more more (whole_rate more)) so_far.1) so_far.2)

pub returns : goal.returns
returns c more y start le =
    let over = subst (λ (l : List CounterCosts). length l ≤ c.loop-counter.counter-index) c.items-counter-items.ensures c.loop-counter-test.false in
    part_end (IsCurve c.loop-counter.sum more) _ _
    (at_drop_all (λ ys. tick_counts more ys) c.args.costs.now.counters c.loop-counter.counter-index over) (c.loop-counter.invariant more y start le)
