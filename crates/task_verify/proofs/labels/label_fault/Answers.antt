use Rattle.std.proofs.Common.{◌≡◌, ◌||◌, ◌⊎◌, [], subst}
use Rattle.std.specs.Prelude.{◌≢◌}
use Rattle.std.specs.Bool.{Decides}
use Rattle.std.proofs.lemmas.Bool.Decides.{Decides-or}
use Rattle.sloth_base.specs.declared.app.Label.{Label}
use Rattle.sloth_base.specs.declared.refusal.Code.TheVariants as code
use Rattle.sloth_base.specs.Search.{IsSearchResult}
use Rattle.task_verify.proofs.Tested.{tested}
use Rattle.task_verify.specs.Cases.{BodyCase, IsBehindOther, IsStartWithResource}
use Rattle.task_verify.proofs.Lists.{label_is}
use Rattle.task_verify.proofs.labels.label_fault.Goals as goal

pub returns : goal.returns
returns c =
    let f = c.args.func.now in
    let k = c.args.number in
    let x = c.index-items-number.result in
    let same = label_is f c.items.result.now k x c.items.ensures c.requires.inside c.index-items-number.is in
    let begins = subst (λ (y : Label). Decides c.is_start_with_resource.result ((y.item ≡ 0) × (y.holds ≢ []))) same c.is_start_with_resource.ensures in
    subst (λ (y : Label). IsSearchResult (BodyCase (IsBehindOther f k ⊎ IsStartWithResource f k) y.line code.V7) c.fault_if.result) same
    (tested (IsBehindOther f k ⊎ IsStartWithResource f k) (c.is_behind_other.result || c.is_start_with_resource.result) c.either-differs.result x.line code.V7 c.fault_if.result c.fault_if.ensures
    c.either-differs.ensures (Decides-or c.is_behind_other.result c.is_start_with_resource.result c.is_behind_other.ensures begins))
