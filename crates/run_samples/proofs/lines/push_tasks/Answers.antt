use Rattle.std.proofs.Common.{◌∙◌, ◌++◌, ap, sym, append_assoc, append-nil}
use Rattle.run_samples.specs.SystemText.{task_part, task_parts}
use Rattle.run_samples.proofs.Rows.{no-tasks, one-task-more}
use Rattle.run_samples.proofs.lines.push_tasks.Goals as goal

pub loop-task-init : goal.loop-task-init
loop-task-init c =
    let image = c.args.image.now in
    let seen = c.args.seen.now in
    let words = c.args.words.now in
    let text = c.args.text.now.items in
    sym (append-nil text) ∙ ap (λ lines. text ++ lines) (sym (no-tasks image seen words))

pub loop-task-preserved : goal.loop-task-preserved
loop-task-preserved c =
    let image = c.args.image.now in
    let seen = c.args.seen.now in
    let words = c.args.words.now in
    let text = c.args.text.now.items in
    let k = c.loop-task.task in
    let line = task_part image seen words k in
    c.in_ok-push_task.ensures ∙ ap (λ t. t ++ line) c.loop-task.invariant ∙ append_assoc text (task_parts image seen words k) line
    ∙ ap (λ lines. text ++ lines) (sym (one-task-more image seen words k))
