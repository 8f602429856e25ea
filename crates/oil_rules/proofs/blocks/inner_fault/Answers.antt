use Rattle.std.proofs.Common.{◌∙◌, ◌⊎◌, Option, ap}
use Rattle.sloth_base.specs.declared.refusal.Code.TheVariants.{O9, O10, O12}
use Rattle.sloth_base.specs.declared.refusal.Part.TheVariants.{Oil}
use Rattle.sloth_base.proofs.Kept.{both_are}
use Rattle.sloth_base.proofs.Cases.{case_found}
use Rattle.oil_table.specs.declared.table.Attribute.{Attribute}
use Rattle.oil_table.specs.Cases.{OilCase}
use Rattle.oil_table.specs.Table.{attribute_of}
use Rattle.oil_table.specs.Uses.{is_second}
use Rattle.oil_table.specs.Beyond.{is_beyond}
use Rattle.oil_rules.specs.AlarmFaults.{is_unlisted}
use Rattle.oil_rules.proofs.blocks.inner_fault.Goals as goal

pub returns : goal.returns
returns c =
    let a = c.args.attr.now in
    let before = c.args.before.now.attrs in
    let limits = c.args.limits in
    let row = attribute_of c.args.place a.name in
    let is_row = c.attribute_of-row.ensures ∙ ap (attribute_of c.args.place) c.bytes.ensures in
    let left = is_unlisted c.args.block.now.objects c.args.place c.args.block.now.inner a in
    let second = case_found Oil (is_second 1 row before a) c.is_second.result a.line O9 c.fault_if-second.result c.fault_if-second.ensures
    (c.is_second.ensures ∙ ap (λ depth. is_second depth c.attribute_of-row.result before a) c.requires ∙ ap (λ (r : Option Attribute). is_second 1 r before a) is_row) in
    let unlisted = case_found Oil left c.is_unlisted.result a.line O10 c.fault_if-unlisted.result c.fault_if-unlisted.ensures c.is_unlisted.ensures in
    let beyond = case_found Oil (is_beyond limits row a) c.is_beyond.result a.line O12 c.fault_if-beyond.result c.fault_if-beyond.ensures
    (c.is_beyond.ensures ∙ ap (λ (r : Option Attribute). is_beyond limits r a) is_row) in
    both_are (OilCase (is_second 1 row before a) a.line O9) (λ r. OilCase left a.line O10 r ⊎ OilCase (is_beyond limits row a) a.line O12 r)
    c.fault_if-second.result c.merge.result c.merge-2.result second
    (both_are (OilCase left a.line O10) (OilCase (is_beyond limits row a) a.line O12) c.fault_if-unlisted.result c.fault_if-beyond.result c.merge.result unlisted beyond c.merge.ensures)
    c.merge-2.ensures
