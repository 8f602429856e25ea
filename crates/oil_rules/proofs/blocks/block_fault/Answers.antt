use Rattle.std.proofs.Common.{◌∙◌, ap, subst}
use Rattle.sloth_base.specs.Search.{IsSearchResult, Somewhere}
use Rattle.oil_table.specs.declared.table.Place.{Place}
use Rattle.oil_table.specs.declared.table.Place.TheVariants as place
use Rattle.oil_table.specs.Table.{block_place}
use Rattle.oil_rules.specs.Blocks.{ActionBlock}
use Rattle.oil_rules.specs.AlarmFaults.{InsideFault}
use Rattle.oil_rules.proofs.blocks.block_fault.Goals as goal

pub returns : goal.returns
returns c =
    let limits = c.args.limits in
    let head = c.args.block.now.head in
    let found = c.in_ok-found.found in
    let inner = c.args.block.now.inner in
    let objects = c.args.tasks.now in
    subst (λ (p : Place). IsSearchResult (Somewhere (InsideFault objects limits p inner) inner) found)
    (c.block_place-place.ensures ∙ ap (block_place place.Alarm) c.head.ensures)
    (subst (λ (b : ActionBlock). IsSearchResult (Somewhere (InsideFault b.objects limits c.block_place-place.result b.inner) b.inner) found)
    (c.new.ensures ∙ ap (λ xs. let b : ActionBlock = record { objects = objects; inner = xs } in b) c.inner.ensures) c.in_ok-found.ensures)
