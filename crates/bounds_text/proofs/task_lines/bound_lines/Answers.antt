use Rattle.std.proofs.Common.{◌∙◌, ◌++◌, ap, sym}
use Rattle.bounds_text.specs.BoundsText.{bound_line}
use Rattle.bounds_text.proofs.Lines.{no-lines, one-line-more}
use Rattle.bounds_text.proofs.task_lines.bound_lines.Goals as goal

pub loop-task-init : goal.loop-task-init
loop-task-init c = c.new-text.ensures.items ∙ sym (no-lines c.args.tasks.now c.args.bounds.now)

pub loop-task-preserved : goal.loop-task-preserved
loop-task-preserved c =
    let tasks = c.args.tasks.now in
    let bounds = c.args.bounds.now in
    let task = c.loop-task.task in
    c.in_ok-extend_from_slice.ensures.items
    ∙ ap (λ line. c.loop-task.text.items ++ line) (c.as_slice.ensures.value ∙ c.in_ok-bound_line.ensures)
    ∙ ap (λ text. text ++ bound_line tasks bounds task) c.loop-task.invariant
    ∙ sym (one-line-more tasks bounds task)
