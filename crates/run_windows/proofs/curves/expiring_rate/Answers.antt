use Rattle.std.proofs.Common.{ℕ, ◌<◌, ◌≤◌, ◌+◌, List, drop, length, sym, subst, ◌∙◌}
use Rattle.std.proofs.lemmas.List.{at_drop_all}
use Rattle.run_windows.specs.declared.costs.AlarmCosts.{AlarmCosts}
use Rattle.run_windows.specs.Arrivals.{expiring}
use Rattle.run_windows.specs.Cycles.{IsRate}
use Rattle.run_windows.proofs.LowerBounds.{Part, part_end, expiring_more, expiring_past}
use Rattle.run_windows.proofs.curves.expiring_rate.Goals as goal
use Rattle.run_windows.proofs.curves.expiring_rate.Goals.{then-acts_on, else-acts_on}

pub loop-alarm-preserved : goal.loop-alarm-preserved
loop-alarm-preserved c counts x h =
    let i = c.loop-alarm.alarm-index in
    let xs = c.items-alarm-items.result.now in
    let e = c.items-alarm-items.ensures in
    let F : List AlarmCosts → ℕ = λ l. expiring c.args.boot c.args.sets c.args.c c.args.j x l in
    let Q : ℕ → List AlarmCosts → Type 0 = λ n l. Part (IsRate n counts) (F (drop (i + 1) l)) (F l) in
    let P : ℕ → Type 0 = λ n. Q n c.args.costs.now.alarms in
    let old = subst (λ (l : List AlarmCosts). Part (IsRate c.loop-alarm.total counts) (F (drop i l)) (F l)) (sym e) (c.loop-alarm.invariant counts x h) in
    elim c.if-acts_on.branch [
      | then-acts_on w ↦ subst P (sym w.total-is)
          (subst (Q w.plus-total.result) e (expiring_more c.args.boot c.args.sets c.args.c c.args.j x counts c.loop-alarm.total w.expiry_rate.result w.plus-total.result _ i _ xs
          c.loop-alarm-test.true w.plus-total.ensures (sym c.acts_on.ensures ∙ w.if-acts_on.true) (w.expiry_rate.ensures counts x h) old))
      | else-acts_on w ↦ subst P (sym w.total-is)
          (subst (Q c.loop-alarm.total) e (expiring_past c.args.boot c.args.sets c.args.c c.args.j x counts c.loop-alarm.total _ i _ xs c.loop-alarm-test.true
          (sym c.acts_on.ensures ∙ w.if-acts_on.false) old))
    ]

pub returns : goal.returns
returns c counts x h =
    let over = subst (λ (l : List AlarmCosts). length l ≤ c.loop-alarm.alarm-index) c.items-alarm-items.ensures c.loop-alarm-test.false in
    part_end (IsRate c.loop-alarm.total counts) _ _
    (at_drop_all (λ ys. expiring c.args.boot c.args.sets c.args.c c.args.j x ys) c.args.costs.now.alarms c.loop-alarm.alarm-index over) (c.loop-alarm.invariant counts x h)
