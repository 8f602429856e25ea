use Rattle.std.proofs.Common.{◌+◌, ◌++◌, ◌∙◌, ap, append_assoc, codes}
use Rattle.debug_session.specs.Replies.{number_text}
use Rattle.debug_session.specs.Texts.{hex_number}
use Rattle.debug_session.proofs.Growing.{one_more, none_yet}
use Rattle.debug_session.proofs.threads.push_numbers.Goals as goal

pub loop-task-init : goal.loop-task-init
loop-task-init c = none_yet number_text c.args.out.now.items

pub loop-task-preserved : goal.loop-task-preserved
loop-task-preserved c =
    let out = c.loop-task.out.items in
    let number = hex_number (c.loop-task.task + 2) in
    one_more number_text c.loop-task.task c.args.out.now.items out _ c.loop-task.invariant
    (c.in_ok-push_number.ensures ∙ ap (λ text. text ++ number) c.in_ok-push.ensures ∙ append_assoc out (codes ",") number)
