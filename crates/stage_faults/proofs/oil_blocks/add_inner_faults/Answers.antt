use Rattle.std.proofs.Common.{◌≡◌, ◌∙◌, List, subst, length, arith}
use Rattle.sloth_base.specs.declared.refusal.Part.TheVariants.{Oil}
use Rattle.sloth_base.specs.Search.{Somewhere}
use Rattle.oil_parse.specs.declared.tree.OilAttr.{OilAttr}
use Rattle.oil_rules.specs.AlarmFaults.{InsideFault}
use Rattle.stage_faults.specs.Told.{Adds}
use Rattle.stage_faults.proofs.Telling.{adds_nowhere, adds_more, adds_end}
use Rattle.stage_faults.proofs.oil_blocks.add_inner_faults.Goals as goal

pub loop-number-init : goal.loop-number-init
loop-number-init c = record {
  told = adds_nowhere Oil (InsideFault c.args.block.now.objects c.args.limits c.args.place c.args.block.now.inner) c.args.notes.now.items;
  depth = c.new-before.ensures.depth;
  behind = c.new-before.ensures.attrs;
  own = c.requires;
}

pub loop-number-preserved : goal.loop-number-preserved
loop-number-preserved c =
    let block = c.args.block.now in
    let attrs = c.args.attrs.now in
    let P = InsideFault block.objects c.args.limits c.args.place block.inner in
    let x = c.index-attrs-number.result in
    let i = c.loop-number.number in
    let k = c.loop-number.invariant in
    let a = c.loop-number.notes.items in
    let b = c.add_inner_fault.new.notes.items in
    record {
      told = adds_more Oil P attrs i x c.args.notes.now.items a b c.loop-number-test.true c.index-attrs-number.is k.told
          (subst (λ (xs : List OilAttr). Adds Oil (P xs x) a b) k.behind c.in_ok-add_inner_fault.ensures);
      depth = c.in_ok-before.ensures.depth ∙ k.depth;
      behind = c.in_ok-before.ensures.attrs;
      own = k.own;
    }

pub returns : goal.returns
returns c =
    let block = c.args.block.now in
    let attrs = c.args.attrs.now in
    let P = InsideFault block.objects c.args.limits c.args.place block.inner in
    let k = c.loop-number.invariant in
    let e : c.loop-number.number ≡ length attrs = omega arith in
    subst (λ (xs : List OilAttr). Adds Oil (Somewhere P xs) c.args.notes.now.items c.loop-number.notes.items) k.own
    (adds_end Oil P attrs c.loop-number.number c.args.notes.now.items c.loop-number.notes.items e k.told)
