use Rattle.std.proofs.Common.{◌≡◌, ◌≤◌, ◌<◌, ◌-◌, ◌∙◌, Some, None, get_or, sym, arith}
use Rattle.schedule_picture.specs.Items.{address_item}
use Rattle.schedule_picture.proofs.Itemized.{last_here, last_none}
use Rattle.schedule_picture.proofs.marks.last_item.Goals as goal

pub returns-in-Some : goal.returns-in-Some
returns-in-Some c =
    let image = c.args.image.now in
    let addresses = c.args.addresses.now in
    let behind = c.loop-behind.behind in
    let below : behind < c.args.to - c.args.from = c.loop-behind-test.true in
    let found : Some c.in-Some.mark ≡ address_item image (get_or addresses (c.args.to - 1 - behind) 0) = sym c.in-Some.is ∙ c.count_item.ensures in
    sym (c.loop-behind.invariant ∙ last_here image addresses c.args.from c.args.to behind (Some c.in-Some.mark) below found)

pub loop-behind-preserved : goal.loop-behind-preserved
loop-behind-preserved c =
    let image = c.args.image.now in
    let addresses = c.args.addresses.now in
    let behind = c.loop-behind.behind in
    let below : behind < c.args.to - c.args.from = c.loop-behind-test.true in
    c.loop-behind.invariant ∙ last_here image addresses c.args.from c.args.to behind None below (sym c.in_default.is ∙ c.count_item.ensures)

pub returns : goal.returns
returns c =
    let behind = c.loop-behind.behind in
    let past : c.args.to - c.args.from ≤ behind = omega (arith, c.loop-behind-test.false) in
    sym (c.loop-behind.invariant ∙ last_none c.args.image.now c.args.addresses.now c.args.from c.args.to behind past)
