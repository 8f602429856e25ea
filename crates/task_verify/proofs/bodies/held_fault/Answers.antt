use Rattle.std.proofs.Common.{◌⊎◌, sym, subst}
use Rattle.sloth_base.specs.declared.app.Item.{Item}
use Rattle.sloth_base.specs.declared.refusal.Code.TheVariants as code
use Rattle.sloth_base.specs.Search.{IsSearchResult}
use Rattle.sloth_base.proofs.Kept.{both_are}
use Rattle.code_rules.specs.WellFormed.{IsOtherListJump, IsWrongRelease, IsSecondTake, IsLeaveWithResource}
use Rattle.code_rules.specs.AppRange.{IsOp}
use Rattle.code_rules.proofs.Judged.{decided}
use Rattle.task_verify.proofs.Tested.{tested}
use Rattle.task_verify.specs.Cases.{BodyCase, HeldFault}
use Rattle.task_verify.specs.Tests.{is_wrong_release, is_second_take, is_leave_with_resource}
use Rattle.task_verify.proofs.Lists.{item_is}
use Rattle.task_verify.proofs.Tests.{Decides-is_wrong_release, Decides-is_second_take, Decides-is_leave_with_resource}
use Rattle.task_verify.proofs.bodies.held_fault.Goals as goal

pub returns : goal.returns
returns c =
    let config = c.args.config.now in
    let app = c.args.app.now in
    let ranks = c.args.ranks.now in
    let f = c.args.func.now in
    let held = c.args.held.now in
    let x = c.index-items-number.result in
    let same = item_is f c.items.result.now c.args.number x c.items.ensures c.requires.inside c.index-items-number.is in
    let op_is = subst (λ (y : Item). IsOp config app f y.op) (sym same) c.requires.item in
    let in_range = c.requires.in_range in
    let belong = c.requires.belong in
    let P7 = BodyCase (IsOtherListJump f held x.op) x.line code.V7 in
    let P8 = BodyCase (IsWrongRelease held x.op) x.line code.V8 in
    let P9 = BodyCase (IsSecondTake app held x.op) x.line code.V9 in
    let P10 = BodyCase (IsLeaveWithResource app held x.op) x.line code.V10 in
    subst (λ (y : Item). IsSearchResult (HeldFault app f held y.line y.op) c.merge-3.result) same
    (both_are P7 (λ r. P8 r ⊎ (P9 r ⊎ P10 r)) c.fault_if-other.result c.merge-2.result c.merge-3.result
    (decided (IsOtherListJump f held x.op) c.is_other_list_jump.result x.line code.V7 c.fault_if-other.result c.fault_if-other.ensures c.is_other_list_jump.ensures)
    (both_are P8 (λ r. P9 r ⊎ P10 r) c.fault_if-releases.result c.merge.result c.merge-2.result
    (tested (IsWrongRelease held x.op) (is_wrong_release held x.op) c.is_wrong_release.result x.line code.V8 c.fault_if-releases.result c.fault_if-releases.ensures c.is_wrong_release.ensures
    (Decides-is_wrong_release held x.op))
    (both_are P9 P10 c.fault_if-takes.result c.fault_if-leaves.result c.merge.result
    (tested (IsSecondTake app held x.op) (is_second_take ranks held x.op) c.is_second_take.result x.line code.V9 c.fault_if-takes.result c.fault_if-takes.ensures c.is_second_take.ensures
    (Decides-is_second_take config app ranks in_range belong f held x.op op_is))
    (tested (IsLeaveWithResource app held x.op) (is_leave_with_resource ranks held x.op) c.is_leave_with_resource.result x.line code.V10 c.fault_if-leaves.result c.fault_if-leaves.ensures c.is_leave_with_resource.ensures
    (Decides-is_leave_with_resource config app ranks in_range belong f held x.op op_is))
    c.merge.ensures)
    c.merge-2.ensures)
    c.merge-3.ensures)
