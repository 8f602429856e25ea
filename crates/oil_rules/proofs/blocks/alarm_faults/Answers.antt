use Rattle.std.proofs.Common.{◌≡◌, ◌∙◌, ap, sym, subst, true, List}
use Rattle.std.specs.Prelude.{codes}
use Rattle.sloth_base.specs.declared.refusal.Code.TheVariants.{O11}
use Rattle.sloth_base.specs.declared.refusal.Part.TheVariants.{Oil}
use Rattle.sloth_base.specs.Search.{IsSearchResult, Somewhere}
use Rattle.sloth_base.proofs.Cases.{case_found}
use Rattle.sloth_base.proofs.Kept.{both_are, finds_if}
use Rattle.oil_parse.specs.declared.tree.OilObject.{OilObject}
use Rattle.oil_table.specs.declared.counter_limits.Limits.{Limits}
use Rattle.oil_table.specs.AlarmCounters.{limits_of}
use Rattle.oil_table.specs.Cases.{OilCase}
use Rattle.oil_table.specs.Objects.{is_of_kind}
use Rattle.oil_rules.specs.Blocks.{BlockText, blocks_of}
use Rattle.oil_rules.specs.AlarmFaults.{lacks_part, BlockFault, PartFault}
use Rattle.oil_rules.proofs.blocks.alarm_faults.Goals as goal

pub returns : goal.returns
returns c =
    let o = c.args.object.now in
    let objects = c.args.tasks.now in
    let attrs = c.items-attrs.ensures in
    let found = c.in_ok-found.found in
    let lacking = case_found Oil (lacks_part o.attrs) c.lacks_part.result o.line O11 c.fault_if-lacking.result c.fault_if-lacking.ensures
    (c.lacks_part.ensures ∙ ap lacks_part attrs) in
    let in_blocks = subst (λ (l : Limits). IsSearchResult (Somewhere (BlockFault objects l) (blocks_of o.attrs)) found)
    (c.limits_of.ensures ∙ ap (λ (x : List OilObject). limits_of x c.items-attrs.result.now) c.requires ∙ ap (limits_of objects) attrs)
    (subst (λ (bs : List BlockText). IsSearchResult (Somewhere (BlockFault objects c.limits_of.result) bs) found)
    (c.as_slice.ensures.value ∙ c.in_ok-blocks.ensures ∙ ap blocks_of attrs) c.in_ok-found.ensures) in
    finds_if (PartFault objects o) (is_of_kind (codes "ALARM") o) c.merge.result
    (λ t. both_are (OilCase (lacks_part o.attrs) o.line O11) (Somewhere (BlockFault objects (limits_of objects o.attrs)) (blocks_of o.attrs))
    c.fault_if-lacking.result found c.merge.result lacking in_blocks c.merge.ensures)
    (λ f. let t : is_of_kind (codes "ALARM") o ≡ true = sym c.is_of_kind.ensures ∙ c.if-not-is_of_kind.false in cc)
