use Rattle.std.proofs.Common.{◌∙◌, List, subst}
use Rattle.sloth_base.specs.Search.{IsSearchResult, Somewhere}
use Rattle.sloth_base.proofs.Kept.{loop_more, loop_end}
use Rattle.oil_parse.specs.declared.tree.OilAttr.{OilAttr}
use Rattle.oil_rules.specs.AlarmFaults.{InsideFault}
use Rattle.oil_rules.proofs.blocks.inner_faults.Goals as goal

pub loop-number-preserved : goal.loop-number-preserved
loop-number-preserved c =
    let block = c.args.block.now in
    let attrs = c.inner-attrs.result.now in
    let P = InsideFault block.objects c.args.limits c.args.place block.inner in
    let x = c.index-attrs-number.result in
    let i = c.loop-number.number in
    let k = c.loop-number.invariant in
    let found = c.inner_fault-found.result in
    record {
      finds = loop_more P attrs i x c.loop-number.least found c.merge-least.result c.loop-number-test.true c.index-attrs-number.is
          (subst (λ (b : List OilAttr). IsSearchResult (P b x) found) k.behind c.inner_fault-found.ensures) c.merge-least.ensures k.finds;
      depth = c.in_ok-before.ensures.depth ∙ k.depth;
      behind = c.in_ok-before.ensures.attrs;
      own = k.own;
    }

pub returns : goal.returns
returns c =
    let block = c.args.block.now in
    let attrs = c.inner-attrs.result.now in
    let P = InsideFault block.objects c.args.limits c.args.place block.inner in
    let k = c.loop-number.invariant in
    subst (λ (xs : List OilAttr). IsSearchResult (Somewhere P xs) c.loop-number.least) k.own
    (loop_end P attrs c.loop-number.number c.loop-number.least c.loop-number-test.false k.finds)
