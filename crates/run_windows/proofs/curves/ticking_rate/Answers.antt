use Rattle.std.proofs.Common.{ℕ, ◌≤◌, ◌+◌, List, drop, length, sym, subst}
use Rattle.std.proofs.lemmas.List.{at_drop_all}
use Rattle.run_windows.specs.declared.costs.CounterCosts.{CounterCosts}
use Rattle.run_windows.specs.Arrivals.{arrivals, ticking}
use Rattle.run_windows.specs.Cycles.{IsRate}
use Rattle.run_windows.proofs.LowerBounds.{Part, part_end, ticking_step, whole_rate}
use Rattle.run_windows.proofs.curves.ticking_rate.Goals as goal

pub loop-c-preserved : goal.loop-c-preserved
loop-c-preserved c counts =
    let i = c.loop-c.c in
    let alarms = c.args.costs.now.alarms in
    let e = c.items-counter-items.ensures in
    let F : ℕ → List CounterCosts → ℕ = λ k l. ticking c.args.boot c.args.sets c.args.j counts alarms k l in
    let old = subst (λ (l : List CounterCosts). Part (IsRate c.loop-c.total counts) (F i (drop i l)) (F 0 l)) (sym e) (c.loop-c.invariant counts) in
    let come = c.arrival_rate-ticks.ensures counts counts (whole_rate counts) in
    subst (λ (l : List CounterCosts). Part (IsRate c.plus-total.result counts) (F (i + 1) (drop (i + 1) l)) (F 0 l)) e
    (ticking_step c.args.boot c.args.sets c.args.j counts c.loop-c.total c.arrival_rate-ticks.result c.expiring_rate-made.result c.min.result c.plus-total.result _ i
    alarms _ c.items-counter-items.result.now c.loop-c-test.true c.min.ensures c.plus-total.ensures come (c.expiring_rate-made.ensures counts _ come) old)

pub returns : goal.returns
returns c counts =
    let over = subst (λ (l : List CounterCosts). length l ≤ c.loop-c.c) c.items-counter-items.ensures c.loop-c-test.false in
    part_end (IsRate c.loop-c.total counts) _ _
    (at_drop_all (λ ys. ticking c.args.boot c.args.sets c.args.j counts c.args.costs.now.alarms c.loop-c.c ys) c.args.costs.now.counters c.loop-c.c over) (c.loop-c.invariant counts)
