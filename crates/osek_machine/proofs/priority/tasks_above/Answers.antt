use Rattle.std.proofs.Common.{◌∙◌, ℕ, ◌+◌, ◌<◌, sym, ap, subst, arith, length}
use Rattle.osek_machine.specs.Above.{is_above}
use Rattle.osek_machine.proofs.Row.{Row, row_set, row_kept}
use Rattle.osek_machine.proofs.priority.tasks_above.Goals as goal
use Rattle.osek_machine.proofs.priority.tasks_above.Goals.{then-is_above, else-is_above}

pub loop-other-preserved : goal.loop-other-preserved
loop-other-preserved c =
    let test = is_above c.args.config.now c.args.store.now c.args.task in
    let few = c.requires.few in
    let u = c.loop-other.other in
    let inside = c.loop-other-test.true in
    let long = ap length c.items-other-end.ensures in
    let small : u < 32 = omega (arith, few, inside, long) in
    let P : ℕ → Type 0 = λ r. Row test (u + 1) r in
    elim c.if-is_above.branch [
      | then-is_above w ↦ subst P (sym (w.row-is ∙ w.with_line-row.ensures)) (row_set test u c.loop-other.row c.loop-other.invariant small (sym c.is_above.ensures ∙ w.if-is_above.true))
      | else-is_above w ↦ subst P (sym w.row-is) (row_kept test u c.loop-other.row c.loop-other.invariant (sym c.is_above.ensures ∙ w.if-is_above.false))
    ]
