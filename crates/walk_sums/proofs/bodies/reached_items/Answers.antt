use Rattle.std.proofs.Common.{◌≡◌, ◌∙◌, ℕ, ◌<◌, Bool, true, false, List, length, get_or, replicate, ap, sym, subst, arith}
use Rattle.std.proofs.lemmas.List.{length-replicate, get_or-replicate}
use Rattle.sloth_base.specs.declared.app.Item.{Item}
use Rattle.sloth_base.specs.declared.app.Func.{Func}
use Rattle.walk_sums.specs.declared.graph.Ways.{Ways}
use Rattle.walk_sums.specs.Graph.{HasMark, ways_of, AreInside}
use Rattle.walk_sums.specs.Search.{IsReachable}
use Rattle.walk_sums.specs.Links.{item_ways}
use Rattle.std.specs.Prelude.{◌↔◌}
use Rattle.walk_sums.proofs.Bodily.{links_inside, labels_of, some_items, walked_items}
use Rattle.walk_sums.proofs.bodies.reached_items.Goals as goal

pub body_ways-requires : goal.body_ways-requires
body_ways-requires c = record { labels = labels_of c.args.config.now c.args.app.now c.requires.well_formed c.args.number c.requires.known c.args.func.now c.requires.func }

pub reachable-requires-clause-some : goal.reachable-requires-clause-some
reachable-requires-clause-some c =
    let some = some_items c.args.config.now c.args.app.now c.requires.well_formed c.args.number c.requires.known c.args.func.now c.requires.func in
    let count = c.in_ok-ways.ensures.count in
    let same = ap (λ (l : List Ways). length l) c.deref-3.ensures.value in
    omega (arith, some, count, same)

pub reachable-requires-clause-inside : goal.reachable-requires-clause-inside
reachable-requires-clause-inside c =
    let n = length c.args.func.now.items in
    let made : c.in_ok-all.all.items ≡ replicate n true = c.in_ok-all.ensures.items_if_clones_equal (λ y same. same) ∙ ap (λ (l : List Item). replicate (length l) true) c.items.ensures in
    subst AreInside (sym c.deref-3.ensures.value)
    (links_inside c.args.func.now c.args.returns.now c.in_ok-onward.onward.items c.in_ok-all.all.items c.in_ok-ways.ways.items (record {
      onward_is = c.in_ok-onward.ensures.exact;
      all_count = ap (λ (l : List Bool). length l) made ∙ length-replicate n true;
      all_is = λ i lt. ap (λ (l : List Bool). get_or l i false) made ∙ get_or-replicate n i true false lt;
      ways_count = c.in_ok-ways.ensures.count;
      ways_are = subst (λ (l : List Bool). (i : ℕ) → i < length c.args.func.now.items → ways_of c.in_ok-ways.ways.items i ≡ item_ways c.args.func.now c.args.returns.now l c.in_ok-all.all.items i)
          c.deref.ensures.value
          (subst (λ (l : List Bool). (i : ℕ) → i < length c.args.func.now.items → ways_of c.in_ok-ways.ways.items i ≡ item_ways c.args.func.now c.args.returns.now c.deref.result.now l i)
          c.deref-2.ensures.value c.in_ok-ways.ensures.exact);
    }))

pub returns-clause-count : goal.returns-clause-count
returns-clause-count c =
    c.in_ok-marks.ensures.count ∙ ap (λ (l : List Ways). length l) c.deref-3.ensures.value ∙ c.in_ok-ways.ensures.count ∙ ap (λ (g : Func). length g.items) c.requires.func

pub returns-clause-exact : goal.returns-clause-exact
returns-clause-exact c =
    let n = length c.args.func.now.items in
    let made : c.in_ok-all.all.items ≡ replicate n true = c.in_ok-all.ensures.items_if_clones_equal (λ y same. same) ∙ ap (λ (l : List Item). replicate (length l) true) c.items.ensures in
    walked_items c.args.config.now c.args.app.now c.requires.well_formed c.args.number c.requires.known c.args.func.now c.requires.func
    c.args.returns.now c.in_ok-onward.onward.items c.in_ok-all.all.items c.in_ok-ways.ways.items c.requires.returns (record {
      onward_is = c.in_ok-onward.ensures.exact;
      all_count = ap (λ (l : List Bool). length l) made ∙ length-replicate n true;
      all_is = λ i lt. ap (λ (l : List Bool). get_or l i false) made ∙ get_or-replicate n i true false lt;
      ways_count = c.in_ok-ways.ensures.count;
      ways_are = subst (λ (l : List Bool). (i : ℕ) → i < length c.args.func.now.items → ways_of c.in_ok-ways.ways.items i ≡ item_ways c.args.func.now c.args.returns.now l c.in_ok-all.all.items i)
          c.deref.ensures.value
          (subst (λ (l : List Bool). (i : ℕ) → i < length c.args.func.now.items → ways_of c.in_ok-ways.ways.items i ≡ item_ways c.args.func.now c.args.returns.now c.deref.result.now l i)
          c.deref-2.ensures.value c.in_ok-ways.ensures.exact);
    }) c.in_ok-marks.marks.items
    (subst (λ (l : List Ways). (i : ℕ) → HasMark c.in_ok-marks.marks.items i ↔ IsReachable l 0 i) c.deref-3.ensures.value c.in_ok-marks.ensures.exact)
