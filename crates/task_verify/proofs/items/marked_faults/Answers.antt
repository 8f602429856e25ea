use Rattle.std.proofs.Common.{◌<◌, ◌≤◌, ◌⊎◌, List, length, subst}
use Rattle.sloth_base.specs.declared.app.Item.{Item}
use Rattle.sloth_base.proofs.Kept.{both_are}
use Rattle.code_rules.proofs.Judged.{judged_more, judged_end}
use Rattle.task_verify.specs.Cases.{AccessFault, FlowFault, PathFault, ItemFault}
use Rattle.task_verify.proofs.items.marked_faults.Goals as goal

pub loop-number-preserved : goal.loop-number-preserved
loop-number-preserved c =
    let config = c.args.config.now in
    let app = c.args.app.now in
    let f = c.args.func.now in
    let b = c.args.body in
    let i = c.loop-number.number in
    judged_more (ItemFault config app b f) (length f.items) i c.loop-number.least c.merge-here.result c.merge-least.result
    (subst (λ (x : List Item). i < length x) c.items-number-end.ensures c.loop-number-test.true)
    (both_are (AccessFault app f i) (λ r. FlowFault config app b f i r ⊎ PathFault f i r) c.access_fault.result c.merge.result c.merge-here.result c.access_fault.ensures
    (both_are (FlowFault config app b f i) (PathFault f i) c.flow_fault-flow.result c.path_fault.result c.merge.result c.flow_fault-flow.ensures c.path_fault.ensures c.merge.ensures)
    c.merge-here.ensures)
    c.merge-least.ensures c.loop-number.invariant

pub returns : goal.returns
returns c =
    let f = c.args.func.now in
    let i = c.loop-number.number in
    judged_end (ItemFault c.args.config.now c.args.app.now c.args.body f) (length f.items) i c.loop-number.least
    (subst (λ (x : List Item). length x ≤ i) c.items-number-end.ensures c.loop-number-test.false) c.loop-number.invariant
