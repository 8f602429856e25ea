use Rattle.std.proofs.Common.{◌≡◌, arith, ap, length}
use Rattle.sloth_base.specs.Named.{function}
use Rattle.sloth_link.proofs.Counting.{few_items, item_more}
use Rattle.sloth_link.proofs.linking.of_function.Goals as goal

pub overflow_cast-count : goal.overflow_cast-count
overflow_cast-count c =
    let few = few_items c.args.app.now c.requires.verified c.args.func c.requires.exists in
    let is : length c.items_in-items.result.now ≡ length (function c.args.app.now c.args.func).items = ap length c.items_in-items.ensures in
    omega (arith, few, is)

pub loop-index-preserved : goal.loop-index-preserved
loop-index-preserved c =
    item_more c.args.app.now c.args.places.now c.args.func c.loop-index.index _ _ c.in_ok-one.field-0 c.in_ok-push.ensures c.loop-index.invariant c.in_ok-one.ensures
