use Rattle.std.proofs.Common.{◌∙◌, ap, sym, subst, arith}
use Rattle.sloth_base.specs.Named.{no_function}
use Rattle.sloth_base.specs.declared.app.Item.{Item}
use Rattle.rv32_instr.specs.Range.{AreInRange}
use Rattle.rv32_expand.proofs.Encodable.{are_in_range}
use Rattle.rv32_expand.proofs.InRangeOf.{small}
use Rattle.rv32_expand.proofs.Verified.{fit_here}
use Rattle.rv32_expand.proofs.lengths.expand.Goals as goal

pub is_long-long-requires-clause-few : goal.is_long-long-requires-clause-few
is_long-long-requires-clause-few c =
    let few = small c.args.app.now (c.requires.verified.0, c.requires.verified.1.in_range) c.args.func no_function c.requires.is_item.declared in
    let inside = c.requires.is_item.inside in
    omega (arith, few.items, inside)

pub draft-requires : goal.draft-requires
draft-requires c =
    let r = c.requires in
    fit_here c.args.app.now r.verified c.args.places.now r.covers r.agree c.args.func c.args.index r.is_item
    c.item_address-at.result c.item_address-at.ensures c.is_long-long.result c.is_long-long.ensures c.args.item.now.op (ap (λ (i : Item). i.op) r.is)

pub in_places-requires-clause-in_range : goal.in_places-requires-clause-in_range
in_places-requires-clause-in_range c =
    let r = c.requires in
    subst AreInRange (sym (c.kinds.ensures.is ∙ c.draft.ensures))
    (are_in_range c.args.app.now c.args.places.now c.args.func c.item_address-at.result c.is_long-long.result c.args.item.now.op
    (fit_here c.args.app.now r.verified c.args.places.now r.covers r.agree c.args.func c.args.index r.is_item
    c.item_address-at.result c.item_address-at.ensures c.is_long-long.result c.is_long-long.ensures c.args.item.now.op (ap (λ (i : Item). i.op) r.is)))
