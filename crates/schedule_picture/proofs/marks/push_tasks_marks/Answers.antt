use Rattle.std.proofs.Common.{◌∙◌, ◌++◌, ap, sym, append_assoc, append-nil}
use Rattle.schedule_picture.specs.Marks.{task_marks, tasks_marks}
use Rattle.schedule_picture.proofs.MarkRows.{no-tasks_marks, one-task_more}
use Rattle.schedule_picture.proofs.marks.push_tasks_marks.Goals as goal

pub loop-task-init : goal.loop-task-init
loop-task-init c =
    let a = c.args in
    let old = a.marks.now.items in
    sym (append-nil old) ∙ ap (λ more. old ++ more) (sym (no-tasks_marks a.arrivals.now a.by a.before.now a.now.now))

pub loop-task-preserved : goal.loop-task-preserved
loop-task-preserved c =
    let a = c.args in
    let old = a.marks.now.items in
    let k = c.loop-task.task in
    let one = task_marks a.arrivals.now a.by a.before.now a.now.now k in
    c.in_ok-push_task_marks.ensures ∙ ap (λ t. t ++ one) c.loop-task.invariant ∙ append_assoc old (tasks_marks a.arrivals.now a.by a.before.now a.now.now k) one
    ∙ ap (λ more. old ++ more) (sym (one-task_more a.arrivals.now a.by a.before.now a.now.now k))
