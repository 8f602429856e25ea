use Rattle.std.proofs.Common.{◌<◌, List, length, sym, subst}
use Rattle.sloth_base.specs.declared.app.Func.{Func}
use Rattle.holds_infer.specs.RightLists.{HasItsLabels}
use Rattle.holds_infer.proofs.BodyFillings.{have_labels}
use Rattle.holds_infer.proofs.label_answers.told_ways.Goals as goal

pub other_ways-requires : goal.other_ways-requires
other_ways-requires c =
    let b = c.loop-body.body in
    subst HasItsLabels (sym c.function-func.ensures)
    (have_labels c.args.config.now c.args.app.now c.requires b (subst (λ (fs : List Func). b < length fs) c.items-body-end.ensures c.loop-body-test.true))
