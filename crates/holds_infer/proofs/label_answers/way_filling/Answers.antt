use Rattle.std.proofs.Common.{◌∙◌, sym, subst, ap}
use Rattle.holds_infer.specs.Spread.{relisted_func}
use Rattle.holds_infer.specs.WayLists.{IsWayFilling}
use Rattle.holds_infer.proofs.WayResources.{relisted_filling}
use Rattle.holds_infer.proofs.label_answers.way_filling.Goals as goal

pub returns : goal.returns
returns c =
    let f = c.args.func.now in
    subst (IsWayFilling f) (sym (c.in_ok-made.ensures ∙ ap (λ lists. relisted_func lists f) c.items.ensures))
    (relisted_filling f c.in_ok-ways.ways.lists c.in_ok-ways.ensures)
