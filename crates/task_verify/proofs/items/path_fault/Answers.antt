use Rattle.std.proofs.Common.{false, not, get_or, subst}
use Rattle.sloth_base.specs.declared.app.Item.{Item}
use Rattle.sloth_base.specs.declared.refusal.Code.TheVariants as code
use Rattle.sloth_base.specs.Search.{IsSearchResult}
use Rattle.code_rules.specs.WellFormed.{IsUnreached}
use Rattle.code_rules.proofs.Judged.{decided}
use Rattle.task_verify.specs.Cases.{BodyCase}
use Rattle.task_verify.proofs.Lists.{item_is}
use Rattle.task_verify.proofs.Paths.{Decides-unreached}
use Rattle.task_verify.proofs.items.path_fault.Goals as goal

pub returns : goal.returns
returns c =
    let f = c.args.func.now in
    let i = c.args.number in
    let marks = c.args.marks.now in
    let x = c.index-items-number.result in
    subst (λ (y : Item). IsSearchResult (BodyCase (IsUnreached f i) y.line code.V6) c.fault_if.result) (item_is f c.items.result.now i x c.items.ensures c.requires.inside c.index-items-number.is)
    (decided (IsUnreached f i) (not (get_or marks i false)) x.line code.V6 c.fault_if.result c.fault_if.ensures (Decides-unreached f marks i c.requires.inside (c.requires.exact i)))
