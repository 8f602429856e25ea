use Rattle.std.proofs.Common.{◌++◌, ap, sym, ◌∙◌}
use Rattle.response_text.specs.Lines.{response_at, reason_at, response_line}
use Rattle.response_text.proofs.FirstTasks.{no_lines, one_line_more}
use Rattle.response_text.proofs.lines.response_lines.Goals as goal

pub loop-task-init : goal.loop-task-init
loop-task-init c = c.new-text.ensures.items ∙ sym (no_lines c.args.config.now c.args.app.now c.args.load.now c.args.responses.now c.args.reasons.now)

pub loop-task-preserved : goal.loop-task-preserved
loop-task-preserved c =
    let config = c.args.config.now in
    let app = c.args.app.now in
    let load = c.args.load.now in
    let responses = c.args.responses.now in
    let reasons = c.args.reasons.now in
    let task = c.loop-task.task in
    c.in_ok-push_line.ensures
    ∙ (ap (λ r. c.loop-task.text.items ++ response_line config app load task r c.reason_at.result) c.response_at.ensures
    ∙ (ap (λ r. c.loop-task.text.items ++ response_line config app load task (response_at responses task) r) c.reason_at.ensures
    ∙ (ap (λ text. text ++ response_line config app load task (response_at responses task) (reason_at reasons task)) c.loop-task.invariant
    ∙ sym (one_line_more config app load responses reasons task))))
