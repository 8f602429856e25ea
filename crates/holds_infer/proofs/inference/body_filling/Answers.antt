use Rattle.std.proofs.Common.{sym, subst, ap, ◌∙◌}
use Rattle.holds_infer.specs.Spread.{relisted_func}
use Rattle.holds_infer.specs.BodyFilling.{IsBodyFilling}
use Rattle.holds_infer.proofs.BodyFillings.{filling}
use Rattle.holds_infer.proofs.inference.body_filling.Goals as goal

pub returns : goal.returns
returns c =
    let f = c.args.func.now in
    subst (IsBodyFilling f) (sym (c.in_ok-made.ensures ∙ ap (λ lists. relisted_func lists f) c.as_slice.ensures.value))
    (filling f c.in_ok-lists.lists.items c.in_ok-lists.ensures)
