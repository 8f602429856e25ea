use Rattle.std.proofs.Common.{◌≡◌, true, take, subst, List}
use Rattle.sloth_base.specs.Search.{IsSearchResult}
use Rattle.sloth_base.proofs.Kept.{loop_more, loop_end, both_are}
use Rattle.oil_parse.specs.declared.tree.OilObject.{OilObject}
use Rattle.oil_rules.specs.ObjectFaults.{is_known, KindFault}
use Rattle.oil_rules.specs.TreeFaults.{KnownObjectFault, ObjectFault}
use Rattle.oil_rules.proofs.judging.object_faults.Goals as goal

pub loop-number-preserved : goal.loop-number-preserved
loop-number-preserved c =
    let objects = c.args.objects.now in
    let table = c.args.table.now in
    let events = c.args.events.now in
    let scheduler = c.args.scheduler in
    let x = c.index-objects-number.result in
    let i = c.loop-number.number in
    let known = c.in_ok-known.known in
    record {
      finds = loop_more (ObjectFault table scheduler events) objects i x c.loop-number.least c.merge.result c.merge-least.result c.loop-number-test.true c.index-objects-number.is
          (both_are (KindFault x) (λ r. (is_known x ≡ true) × KnownObjectFault table scheduler events (take i objects) x r) c.kind_fault.result known c.merge.result c.kind_fault.ensures
          (subst (λ (front : List OilObject). IsSearchResult (λ r. (is_known x ≡ true) × KnownObjectFault table scheduler events front x r) known) c.loop-number.invariant.behind c.in_ok-known.ensures)
          c.merge.ensures)
          c.merge-least.ensures c.loop-number.invariant.finds;
      behind = c.in_ok-front.ensures;
    }

pub returns : goal.returns
returns c =
    loop_end (ObjectFault c.args.table.now c.args.scheduler c.args.events.now) c.args.objects.now c.loop-number.number c.loop-number.least c.loop-number-test.false
    c.loop-number.invariant.finds
