use Rattle.std.proofs.Common.{◌≡◌, ◌∙◌, ◌<◌, List, length, get_or, set, ap, arith}
use Rattle.std.proofs.lemmas.List.{get_or_default}
use Rattle.sloth_base.specs.declared.config.TaskDecl.{TaskDecl}
use Rattle.osek_scheduler.specs.State.{Task, sleeping_task}
use Rattle.osek_scheduler.specs.Changes.{changed_task}
use Rattle.osek_scheduler.specs.declared.change.TaskChange.TheVariants as change
use Rattle.osek_machine.proofs.Started.{started-all, activates, passes_on}
use Rattle.osek_machine.proofs.store.autostart.Goals as goal
use Rattle.osek_machine.proofs.store.autostart.Goals.{then-items-t, else-items-t}

pub loop-t-preserved : goal.loop-t-preserved
loop-t-preserved c =
    let ds = c.args.config.now.tasks in
    let ts = c.args.tasks.now in
    let now = c.loop-t.tasks in
    let n = c.loop-t.t in
    let x = c.index-items-t.result in
    let k = c.loop-t-test.true in
    let h : n < length ds = omega (arith, k, c.requires) in
    let auto = ap (λ (y : TaskDecl). y.autostart) c.index-items-t.is in
    let l : n < length now = omega (arith, k, c.loop-t.auto.tasks) in
    let at : x ≡ get_or ds n x = c.index-items-t.is ∙ ap (λ (ys : List TaskDecl). get_or ys n x) c.items.ensures in
    elim c.if-items-t.branch [
      | then-items-t w ↦
          let own = w.index-tasks-t.result in
          let same = get_or_default now n own sleeping_task l in
          let done = w.tasks-is ∙ ap (λ (y : Task). set now n y) (w.apply.ensures ∙ ap (changed_task change.Activate) same) in
          activates n ds ts now c.if-items-t.tasks x h k c.loop-t.invariant at (auto ∙ w.if-items-t.true) done
      | else-items-t w ↦ passes_on n ds ts now c.if-items-t.tasks x h k c.loop-t.invariant at (auto ∙ w.if-items-t.false) w.tasks-is
    ]

pub returns : goal.returns
returns c =
    c.loop-t.invariant ∙ started-all c.loop-t.t c.args.config.now.tasks c.args.tasks.now c.requires c.loop-t-test.false
