use Rattle.std.proofs.Common.{◌≡◌, true, List, ℕ, subst}
use Rattle.std.specs.Prelude.{◌≢◌}
use Rattle.std.specs.Bool.{Decides}
use Rattle.sloth_base.specs.declared.app.Label.{Label}
use Rattle.sloth_base.specs.declared.refusal.Code.TheVariants as code
use Rattle.sloth_base.specs.Search.{IsSearchResult}
use Rattle.sloth_base.specs.Named.{label_of}
use Rattle.code_rules.specs.Code.{is_fallen_into, held_list_fallen_into}
use Rattle.code_rules.proofs.Judged.{decided}
use Rattle.task_verify.specs.Cases.{BodyCase}
use Rattle.task_verify.proofs.Lists.{label_is}
use Rattle.task_verify.proofs.bodies.labelled_fault.Goals as goal

pub returns : goal.returns
returns c =
    let f = c.args.func.now in
    let place = c.args.place in
    let k = c.args.label in
    let x = c.index-items-label.result in
    let differs = subst (λ (h : List ℕ). Decides c.falls_other-differs.result ((is_fallen_into f place ≡ true) × ((label_of f k).holds ≢ h))) c.requires.held c.falls_other-differs.ensures in
    subst (λ (y : Label). IsSearchResult (BodyCase ((is_fallen_into f place ≡ true) × ((label_of f k).holds ≢ held_list_fallen_into f place)) y.line code.V7) c.fault_if.result)
    (label_is f c.items.result.now k x c.items.ensures c.requires.known c.index-items-label.is)
    (decided ((is_fallen_into f place ≡ true) × ((label_of f k).holds ≢ held_list_fallen_into f place)) c.falls_other-differs.result x.line code.V7 c.fault_if.result c.fault_if.ensures differs)
