use Rattle.std.proofs.Common.{◌∙◌, ◌++◌, ap, sym, append_assoc, append-nil}
use Rattle.tool_commands.specs.StatesText.{count_line, task_line, task_lines}
use Rattle.tool_commands.proofs.Tasks.{no-lines, one-line-more}
use Rattle.tool_commands.proofs.response_command.states_text.Goals as goal

pub loop-task-init : goal.loop-task-init
loop-task-init c =
    let count = count_line c.args.seen.now.count in
    c.in_ok-text.ensures.items ∙ c.bytes.ensures ∙ c.count_line.ensures ∙ sym (append-nil count)
    ∙ ap (λ lines. count ++ lines) (sym (no-lines c.args.image.now c.args.seen.now.tasks))

pub loop-task-preserved : goal.loop-task-preserved
loop-task-preserved c =
    let image = c.args.image.now in
    let states = c.args.seen.now.tasks in
    let count = count_line c.args.seen.now.count in
    let task = c.loop-task.task in
    c.in_ok-extend_from_slice.ensures.items
    ∙ ap (λ line. c.loop-task.text.items ++ line) (c.bytes-in-loop-task.ensures ∙ c.task_line.ensures)
    ∙ ap (λ text. text ++ task_line image states task) c.loop-task.invariant
    ∙ append_assoc count (task_lines image states task) (task_line image states task)
    ∙ ap (λ lines. count ++ lines) (sym (one-line-more image states task))
