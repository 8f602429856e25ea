use Rattle.std.proofs.Common.{◌∙◌, ◌++◌, ap, sym}
use Rattle.bounds_text.specs.LowerCounts.{count_line}
use Rattle.bounds_text.proofs.CountLines.{no-lines, one-line-more}
use Rattle.bounds_text.proofs.task_lines.count_lines.Goals as goal

pub loop-task-init : goal.loop-task-init
loop-task-init c = c.new-text.ensures.items ∙ sym (no-lines c.args.tasks.now c.args.weight c.args.table.now)

pub loop-task-preserved : goal.loop-task-preserved
loop-task-preserved c =
    let tasks = c.args.tasks.now in
    let weight = c.args.weight in
    let table = c.args.table.now in
    let task = c.loop-task.task in
    c.in_ok-extend_from_slice.ensures.items
    ∙ ap (λ line. c.loop-task.text.items ++ line) (c.as_slice.ensures.value ∙ c.in_ok-count_line.ensures)
    ∙ ap (λ text. text ++ count_line tasks weight table task) c.loop-task.invariant
    ∙ sym (one-line-more tasks weight table task)
