use Rattle.std.proofs.Common.{ℕ, ◌≤◌, ◌+◌, List, drop, length, sym, subst}
use Rattle.std.proofs.lemmas.List.{at_drop_all}
use Rattle.run_windows.specs.declared.costs.TaskCosts.{TaskCosts}
use Rattle.run_windows.specs.declared.costs.Made.{Made}
use Rattle.run_windows.specs.Windows.{round_counts, IsAtMost}
use Rattle.run_windows.specs.Cycles.{AreRatesOf, IsCurve}
use Rattle.run_windows.proofs.LowerBounds.{Part, part_end, round_step}
use Rattle.run_windows.proofs.curves.with_rounds.Goals as goal

pub loop-k-preserved : goal.loop-k-preserved
loop-k-preserved c more y m start below rates =
    let k = c.loop-k.k in
    let e = c.items-task-items.ensures in
    let F : ℕ → List TaskCosts → ℕ = λ i l. round_counts m i l in
    let so_far = subst (λ (l : List TaskCosts). Part (IsCurve c.loop-k.sum more) (F k (drop k l)) (y + F 0 l)) (sym e) (c.loop-k.invariant more y m start below rates) in
    let own = subst (λ (v : Made). IsAtMost v (m k)) (sym c.number_of-number.ensures) (below k) in
    let by = subst (λ (v : Made). AreRatesOf v more (m k)) (sym c.number_of-by.ensures) (rates k) in
    let firsts = c.with_more-firsts.ensures more (m k).activations so_far.0 own.activations by.activations so_far.1 in
    subst (λ (l : List TaskCosts). Part (IsCurve c.with_more-sum.result more) (F (k + 1) (drop (k + 1) l)) (y + F 0 l)) e
    (round_step c.with_more-sum.result m more _ k so_far.0 c.reckoned-first.result c.reckoned-next.result _ c.items-task-items.result.now c.loop-k-test.true
    c.reckoned-first.ensures.is c.reckoned-next.ensures.is (c.with_more-sum.ensures more (m k).settings _ own.settings by.settings firsts) so_far.2)

pub returns : goal.returns
returns c more y m start below rates =
    let over = subst (λ (l : List TaskCosts). length l ≤ c.loop-k.k) c.items-task-items.ensures c.loop-k-test.false in
    part_end (IsCurve c.loop-k.sum more) _ _
    (at_drop_all (λ ys. round_counts m c.loop-k.k ys) c.args.costs.now.tasks c.loop-k.k over) (c.loop-k.invariant more y m start below rates)
