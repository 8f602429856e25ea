use Rattle.std.proofs.Common.{◌⊎◌, subst}
use Rattle.sloth_base.specs.declared.app.Item.{Item}
use Rattle.sloth_base.specs.declared.refusal.Code.TheVariants as code
use Rattle.sloth_base.specs.Search.{IsSearchResult}
use Rattle.sloth_base.proofs.Kept.{both_are}
use Rattle.code_rules.specs.WellFormed.{IsAccessPast, IsUneven, IsMaskPast}
use Rattle.task_verify.proofs.Tested.{tested}
use Rattle.task_verify.specs.Cases.{BodyCase}
use Rattle.task_verify.specs.Tests.{is_access_past, is_uneven, is_mask_past}
use Rattle.task_verify.proofs.Lists.{item_is}
use Rattle.task_verify.proofs.Tests.{Decides-is_access_past, Decides-is_uneven, Decides-is_mask_past}
use Rattle.task_verify.proofs.items.access_fault.Goals as goal

pub returns : goal.returns
returns c =
    let app = c.args.app.now in
    let f = c.args.func.now in
    let i = c.args.number in
    let x = c.index-items-number.result in
    subst
    (λ (y : Item).
    IsSearchResult (λ r. BodyCase (IsAccessPast app f y.op) y.line code.V2 r ⊎ (BodyCase (IsUneven y.op) y.line code.V3 r ⊎ BodyCase (IsMaskPast app y.op) y.line code.V4 r)) c.merge-2.result)
    (item_is f c.items.result.now i x c.items.ensures c.requires c.index-items-number.is)
    (both_are (BodyCase (IsAccessPast app f x.op) x.line code.V2) (λ r. BodyCase (IsUneven x.op) x.line code.V3 r ⊎ BodyCase (IsMaskPast app x.op) x.line code.V4 r)
    c.fault_if-past.result c.merge.result c.merge-2.result
    (tested (IsAccessPast app f x.op) (is_access_past app f x.op) c.is_access_past.result x.line code.V2 c.fault_if-past.result c.fault_if-past.ensures c.is_access_past.ensures
    (Decides-is_access_past app f x.op))
    (both_are (BodyCase (IsUneven x.op) x.line code.V3) (BodyCase (IsMaskPast app x.op) x.line code.V4) c.fault_if-uneven.result c.fault_if-masked.result c.merge.result
    (tested (IsUneven x.op) (is_uneven x.op) c.is_uneven.result x.line code.V3 c.fault_if-uneven.result c.fault_if-uneven.ensures c.is_uneven.ensures (Decides-is_uneven x.op))
    (tested (IsMaskPast app x.op) (is_mask_past app x.op) c.is_mask_past.result x.line code.V4 c.fault_if-masked.result c.fault_if-masked.ensures c.is_mask_past.ensures
    (Decides-is_mask_past app x.op))
    c.merge.ensures)
    c.merge-2.ensures)
