use Rattle.std.proofs.Common.{◌≡◌, ◌≤◌, ◌<◌, ◌∙◌, Some, None, get_or, sym, arith}
use Rattle.schedule_picture.specs.Items.{address_item}
use Rattle.schedule_picture.proofs.Itemized.{first_here, first_none}
use Rattle.schedule_picture.proofs.marks.first_item.Goals as goal

pub returns-in-Some : goal.returns-in-Some
returns-in-Some c =
    let image = c.args.image.now in
    let addresses = c.args.addresses.now in
    let place = c.loop-place.place in
    let below : place < c.args.to = c.loop-place-test.true in
    let found : Some c.in-Some.mark ≡ address_item image (get_or addresses place 0) = sym c.in-Some.is ∙ c.count_item.ensures in
    sym (c.loop-place.invariant ∙ first_here image addresses place c.args.to (Some c.in-Some.mark) below found)

pub loop-place-preserved : goal.loop-place-preserved
loop-place-preserved c =
    let image = c.args.image.now in
    let addresses = c.args.addresses.now in
    let place = c.loop-place.place in
    let below : place < c.args.to = c.loop-place-test.true in
    c.loop-place.invariant ∙ first_here image addresses place c.args.to None below (sym c.in_default.is ∙ c.count_item.ensures)

pub returns : goal.returns
returns c =
    let place = c.loop-place.place in
    let past : c.args.to ≤ place = omega (arith, c.loop-place-test.false) in
    sym (c.loop-place.invariant ∙ first_none c.args.image.now c.args.addresses.now place place c.args.to past)
