use Rattle.std.proofs.Common.{◌≡◌, [], length, drop, arith, sym, subst, ap, ◌∙◌}
use Rattle.std.proofs.lemmas.List.{take_at}
use Rattle.holds_infer.specs.Places.{PlaceLists}
use Rattle.holds_infer.specs.Spread.{IsListVisit, AreSpreading}
use Rattle.holds_infer.proofs.Spreading.{spread_begun}
use Rattle.holds_infer.proofs.body_ways.places.Goals as goal

pub spread-requires-clause-spreading : goal.spread-requires-clause-spreading
spread-requires-clause-spreading c =
    let old = c.in_ok-lists.lists.items in
    let new = c.visit.new.lists in
    let at = subst (λ (ls : PlaceLists). IsListVisit ls new c.new-pending.result.items c.visit.new.pending.items 0 []) c.deref_mut.ensures.value c.in_ok-visit.ensures in
    let one = c.visit.auto.lists in
    let two = ap (λ (xs : PlaceLists). length xs) c.deref_mut.ensures.value in
    let three = c.in_ok-lists.lists.ok.0 in
    let whole : c.deref_mut-2.result.now ≡ new = c.deref_mut-2.ensures.value ∙ take_at new (drop (length new) old) c.in_ok-lists.lists.len (omega (arith, one, two, three)) in
    subst (λ (ls : PlaceLists). AreSpreading c.args.func.now ls c.visit.new.pending.items) (sym whole)
    (spread_begun c.args.func.now old new c.new-pending.result.items c.visit.new.pending.items (c.in_ok-lists.ensures.count ∙ ap (λ xs. length xs) c.items.ensures)
    c.requires.some c.in_ok-lists.ensures.clear c.new-pending.ensures.items at)
