use Rattle.std.proofs.Common.{◌≡◌, ◌∙◌, ℕ, ◌-◌, ◌+◌, ◌<◌, List, length, ap, sym, subst}
use Rattle.sloth_base.specs.declared.app.Label.{Label}
use Rattle.sloth_base.specs.Named.{label_of}
use Rattle.task_verify.proofs.Lists.{label_is}
use Rattle.fault_witnesses.specs.CleanWays.{IsWayFromLabel, way_item}
use Rattle.fault_witnesses.proofs.Clean.{straight_way}
use Rattle.fault_witnesses.proofs.straight_ways.labelled_way.Goals as goal

pub returns : goal.returns
returns c =
    let f = c.args.func.now in
    let k = c.in-Some.label in
    let goal_item = c.args.goal in
    let stands = c.if-not-stands_last.false in
    let known = c.stands_last.ensures.known stands in
    let before = c.stands_last.ensures.before stands in
    let same = label_is f c.items.result.now k c.index-items-label.result c.items.ensures known c.index-items-label.is in
    let place = ap (λ (y : Label). y.item) (sym c.index-items-label.is ∙ same) in
    let way = c.in_ok-way.way.items in
    let made =
    straight_way f (label_of f k).item goal_item way before
    (subst (λ x. length way ≡ goal_item - x + 1) place c.in_ok-way.ensures.count)
    (subst (λ x. (n : ℕ) → n < goal_item - x + 1 → way_item way n ≡ x + n) place c.in_ok-way.ensures.each)
    (c.in_ok-is_straight.ensures c.if-not-branch.false) in
    subst (λ (w : List ℕ). IsWayFromLabel f k goal_item w) (sym c.from_vec.ensures) (record { last = c.stands_last.ensures.behind stands; steps = made })
