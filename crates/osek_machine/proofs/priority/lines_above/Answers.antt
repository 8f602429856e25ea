use Rattle.std.proofs.Common.{◌∙◌, ℕ, ◌+◌, ◌<◌, sym, ap, subst, arith, length}
use Rattle.sloth_base.specs.Owners.{first_counter_line}
use Rattle.osek_scheduler.specs.declared.state.Counter.{Counter}
use Rattle.osek_machine.specs.Above.{is_line_above}
use Rattle.osek_machine.proofs.Lines.{tasks_row, counter_set, counter_kept, whole_row}
use Rattle.osek_machine.proofs.Row.{Row}
use Rattle.osek_machine.proofs.priority.lines_above.Goals as goal
use Rattle.osek_machine.proofs.priority.lines_above.Goals.{then-counter, else-counter}

pub loop-counter-init : goal.loop-counter-init
loop-counter-init c =
    tasks_row c.args.config.now c.args.store.now c.args.task c.requires.few c.tasks_above-row.result c.tasks_above-row.ensures

pub loop-counter-preserved : goal.loop-counter-preserved
loop-counter-preserved c =
    let config = c.args.config.now in
    let s = c.args.store.now in
    let few = c.requires.few_counters in
    let inside = c.loop-counter-test.true in
    let long = ap length c.items-counter-end.ensures in
    let lt : c.loop-counter.counter < length config.counters = omega (arith, inside, long) in
    let due = ap (λ (k : Counter). k.due) (sym c.counter.ensures) in
    let P : ℕ → Type 0 = λ r. Row (is_line_above config s c.args.task) (first_counter_line + (c.loop-counter.counter + 1)) r in
    elim c.if-counter.branch [
      | then-counter w ↦ subst P (sym (w.row-is ∙ w.with_line-row.ensures))
          (counter_set config s c.args.task c.requires.few c.loop-counter.counter c.loop-counter.row c.loop-counter.invariant few lt (due ∙ w.if-counter.true))
      | else-counter w ↦ subst P (sym w.row-is)
          (counter_kept config s c.args.task c.requires.few c.loop-counter.counter c.loop-counter.row c.loop-counter.invariant lt (due ∙ w.if-counter.false))
    ]

pub returns : goal.returns
returns c =
    let past = c.loop-counter-test.false in
    let long = ap length c.items-counter-end.ensures in
    whole_row c.args.config.now c.args.store.now c.args.task c.requires.few c.loop-counter.counter c.loop-counter.row c.loop-counter.invariant (omega (arith, past, long))
