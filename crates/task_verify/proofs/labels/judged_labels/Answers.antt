use Rattle.std.proofs.Common.{◌<◌, ◌≤◌, List, length, subst}
use Rattle.sloth_base.specs.declared.app.Label.{Label}
use Rattle.code_rules.proofs.Judged.{judged_more, judged_end}
use Rattle.task_verify.specs.Cases.{LabelFault}
use Rattle.task_verify.proofs.labels.judged_labels.Goals as goal

pub loop-number-preserved : goal.loop-number-preserved
loop-number-preserved c =
    let f = c.args.func.now in
    let i = c.loop-number.number in
    judged_more (LabelFault f) (length f.labels) i c.loop-number.least c.label_fault.result c.merge-least.result
    (subst (λ (x : List Label). i < length x) c.items-number-end.ensures c.loop-number-test.true) c.label_fault.ensures c.merge-least.ensures c.loop-number.invariant

pub returns : goal.returns
returns c =
    let f = c.args.func.now in
    let i = c.loop-number.number in
    judged_end (LabelFault f) (length f.labels) i c.loop-number.least
    (subst (λ (x : List Label). length x ≤ i) c.items-number-end.ensures c.loop-number-test.false) c.loop-number.invariant
