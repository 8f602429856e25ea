use Rattle.std.proofs.Common.{◌∙◌, ◌++◌, [], get_or, ap, sym, append_assoc, append-nil}
use Rattle.losses_text.specs.RequestsText.{count_line, task_counts}
use Rattle.losses_text.proofs.RequestLines.{no-tasks, one-task-more}
use Rattle.losses_text.proofs.requests.push_tasks.Goals as goal

pub loop-task-init : goal.loop-task-init
loop-task-init c =
    let text = c.args.text.now.items in
    sym (append-nil text) ∙ ap (λ lines. text ++ lines) (sym (no-tasks c.args.image.now c.args.all.now))

pub loop-task-preserved : goal.loop-task-preserved
loop-task-preserved c =
    let image = c.args.image.now in
    let all = c.args.all.now in
    let text = c.args.text.now.items in
    let k = c.loop-task.task in
    let line = count_line (get_or image.tasks k []) all k in
    c.in_ok-push_task.ensures ∙ ap (λ t. t ++ line) c.loop-task.invariant ∙ append_assoc text (task_counts image all k) line
    ∙ ap (λ lines. text ++ lines) (sym (one-task-more image all k))
