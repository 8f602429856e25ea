use Rattle.std.proofs.Common.{◌∙◌, Option, List, ap, sym, subst, take}
use Rattle.std.proofs.lemmas.List.Sums.{fold_more}
use Rattle.sloth_base.specs.Search.{IsSearchResult}
use Rattle.sloth_base.proofs.Kept.{loop_more, loop_end}
use Rattle.oil_parse.specs.declared.tree.OilAttr.{OilAttr}
use Rattle.oil_table.specs.declared.table.Attribute.{Attribute}
use Rattle.oil_table.specs.declared.table.Place.TheVariants.{Nowhere}
use Rattle.oil_table.specs.Table.{attribute_of}
use Rattle.oil_rules.specs.AttributeFaults.{opened_place, inner_place, place_by, RowFault, AttributeFault}
use Rattle.oil_rules.proofs.judging.attribute_faults.Goals as goal

pub loop-number-preserved : goal.loop-number-preserved
loop-number-preserved c =
    let attrs = c.args.attrs.now in
    let objects = c.args.objects.now in
    let place = c.args.place in
    let x = c.index-attrs-number.result in
    let i = c.loop-number.number in
    let k = c.loop-number.invariant in
    let at_place = c.place_by.ensures ∙ ap (λ p. place_by place p x) k.opens in
    let row = c.attribute_of-row.ensures ∙ ap (attribute_of c.place_by.result) c.bytes.ensures ∙ ap (λ p. attribute_of p x.name) at_place in
    let found = c.row_fault.result in
    record {
      finds = loop_more (AttributeFault objects c.args.scheduler place) attrs i x c.loop-number.least found c.merge-least.result c.loop-number-test.true c.index-attrs-number.is
          (subst (λ (r : Option Attribute). IsSearchResult (RowFault objects c.args.scheduler r (take i attrs) x) found) row
          (subst (λ (b : List OilAttr). IsSearchResult (RowFault objects c.args.scheduler c.attribute_of-row.result b x) found) k.behind c.row_fault.ensures))
          c.merge-least.ensures k.finds;
      opens = c.opened-inner.ensures ∙ ap (λ p. opened_place place p x) k.opens ∙ ap (opened_place place (inner_place place (take i attrs))) c.index-attrs-number.is
          ∙ sym (fold_more (opened_place place) Nowhere attrs i x c.loop-number-test.true);
      depth = c.in_ok-before.ensures.depth ∙ k.depth;
      behind = c.in_ok-before.ensures.attrs;
    }

pub returns : goal.returns
returns c =
    loop_end (AttributeFault c.args.objects.now c.args.scheduler c.args.place) c.args.attrs.now c.loop-number.number c.loop-number.least c.loop-number-test.false
    c.loop-number.invariant.finds
