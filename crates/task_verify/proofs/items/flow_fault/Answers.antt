use Rattle.std.proofs.Common.{◌⊎◌, subst}
use Rattle.sloth_base.specs.declared.app.Item.{Item}
use Rattle.sloth_base.specs.declared.refusal.Code.TheVariants as code
use Rattle.sloth_base.specs.Search.{IsSearchResult}
use Rattle.sloth_base.proofs.Kept.{both_are}
use Rattle.code_rules.specs.WellFormed.{IsRunOut, IsWrongLeave, IsUndeclaredUse}
use Rattle.task_verify.proofs.Tested.{tested}
use Rattle.task_verify.specs.Cases.{BodyCase}
use Rattle.task_verify.specs.Tests.{is_run_out, is_wrong_leave}
use Rattle.task_verify.specs.Uses.{is_undeclared_use}
use Rattle.task_verify.proofs.Lists.{item_is}
use Rattle.task_verify.proofs.Tests.{Decides-is_run_out, Decides-is_wrong_leave}
use Rattle.task_verify.proofs.Uses.{Decides-is_undeclared_use}
use Rattle.task_verify.proofs.items.flow_fault.Goals as goal

pub returns : goal.returns
returns c =
    let config = c.args.config.now in
    let app = c.args.app.now in
    let f = c.args.func.now in
    let b = c.args.body in
    let users = c.args.users in
    let i = c.args.number in
    let x = c.index-items-number.result in
    subst
    (λ (y : Item).
    IsSearchResult (λ r. BodyCase (IsRunOut f i) y.line code.V5 r ⊎ (BodyCase (IsWrongLeave f y.op) y.line code.V11 r ⊎ BodyCase (IsUndeclaredUse config app b y.op) y.line code.V12 r)) c.merge-2.result)
    (item_is f c.items.result.now i x c.items.ensures c.requires.inside c.index-items-number.is)
    (both_are (BodyCase (IsRunOut f i) x.line code.V5) (λ r. BodyCase (IsWrongLeave f x.op) x.line code.V11 r ⊎ BodyCase (IsUndeclaredUse config app b x.op) x.line code.V12 r)
    c.fault_if-out.result c.merge.result c.merge-2.result
    (tested (IsRunOut f i) (is_run_out f i) c.is_run_out.result x.line code.V5 c.fault_if-out.result c.fault_if-out.ensures c.is_run_out.ensures (Decides-is_run_out f i))
    (both_are (BodyCase (IsWrongLeave f x.op) x.line code.V11) (BodyCase (IsUndeclaredUse config app b x.op) x.line code.V12) c.fault_if-wrong.result c.fault_if-undeclared.result c.merge.result
    (tested (IsWrongLeave f x.op) (is_wrong_leave f x.op) c.is_wrong_leave.result x.line code.V11 c.fault_if-wrong.result c.fault_if-wrong.ensures c.is_wrong_leave.ensures
    (Decides-is_wrong_leave f x.op))
    (tested (IsUndeclaredUse config app b x.op) (is_undeclared_use config users x.op) c.is_undeclared_use.result x.line code.V12 c.fault_if-undeclared.result c.fault_if-undeclared.ensures
    c.is_undeclared_use.ensures (Decides-is_undeclared_use config app c.requires.in_range b users x.op c.requires.users))
    c.merge.ensures)
    c.merge-2.ensures)
