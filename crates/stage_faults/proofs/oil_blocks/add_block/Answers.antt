use Rattle.std.proofs.Common.{◌∙◌, ap, subst, sym}
use Rattle.std.proofs.lemmas.Result.{on_ok_weaker}
use Rattle.sloth_base.specs.declared.refusal.Part.TheVariants.{Oil}
use Rattle.sloth_base.specs.Search.{Somewhere}
use Rattle.oil_table.specs.declared.table.Place.{Place}
use Rattle.oil_table.specs.declared.table.Place.TheVariants as place
use Rattle.oil_table.specs.Table.{block_place}
use Rattle.oil_rules.specs.Blocks.{ActionBlock}
use Rattle.oil_rules.specs.AlarmFaults.{InsideFault}
use Rattle.stage_faults.specs.Told.{Adds}
use Rattle.stage_faults.proofs.oil_blocks.add_block.Goals as goal

pub add_inner_faults-requires : goal.add_inner_faults-requires
add_inner_faults-requires c = sym (ap (λ (k : ActionBlock). k.inner) c.new-named.ensures)

pub returns : goal.returns
returns c =
    let limits = c.args.limits in
    let head = c.args.block.now.head in
    let inner = c.args.block.now.inner in
    let objects = c.args.tasks.now in
    let a = c.args.notes.now.items in
    let b = c.add_inner_faults.new.notes.items in
    on_ok_weaker c.add_inner_faults.result
    (λ told.
    subst (λ (p : Place). Adds Oil (Somewhere (InsideFault objects limits p inner) inner) a b) (c.block_place-place.ensures ∙ ap (block_place place.Alarm) c.head.ensures)
    (subst (λ (k : ActionBlock). Adds Oil (Somewhere (InsideFault k.objects limits c.block_place-place.result k.inner) k.inner) a b)
    (c.new-named.ensures ∙ ap (λ xs. let k : ActionBlock = record { objects = objects; inner = xs } in k) c.inner-inner.ensures) told))
    c.add_inner_faults.ensures
