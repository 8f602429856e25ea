use Rattle.std.proofs.Common.{◌⊎◌}
use Rattle.sloth_base.specs.declared.refusal.Code.TheVariants.{O9, O11, O12, O14}
use Rattle.sloth_base.proofs.Kept.{both_are}
use Rattle.oil_table.specs.Cases.{OilCase}
use Rattle.oil_rules.specs.ObjectFaults.{is_doubled, lacks_attribute, is_strange_mode, is_above}
use Rattle.sloth_base.specs.declared.refusal.Part.TheVariants.{Oil}
use Rattle.sloth_base.proofs.Cases.{case_found}
use Rattle.oil_rules.proofs.front.known_fault.Goals as goal

pub returns : goal.returns
returns c =
    let o = c.args.object.now in
    let front = c.args.front.now in
    let doubled = case_found Oil (is_doubled c.args.scheduler front o) c.is_doubled-doubled.result o.line O9 c.fault_if-doubled.result c.fault_if-doubled.ensures c.is_doubled-doubled.ensures in
    let lacking = case_found Oil (lacks_attribute o) c.lacks_attribute.result o.line O11 c.fault_if-lacking.result c.fault_if-lacking.ensures c.lacks_attribute.ensures in
    let strange = case_found Oil (is_strange_mode o) c.is_strange_mode.result o.line O12 c.fault_if-strange.result c.fault_if-strange.ensures c.is_strange_mode.ensures in
    let above = case_found Oil (is_above front o) c.is_above.result o.line O14 c.fault_if-above.result c.fault_if-above.ensures c.is_above.ensures in
    both_are (OilCase (is_doubled c.args.scheduler front o) o.line O9) (λ r. OilCase (lacks_attribute o) o.line O11 r ⊎ (OilCase (is_strange_mode o) o.line O12 r ⊎ OilCase (is_above front o) o.line O14 r))
    c.fault_if-doubled.result c.merge-2.result c.merge-3.result doubled
    (both_are (OilCase (lacks_attribute o) o.line O11) (λ r. OilCase (is_strange_mode o) o.line O12 r ⊎ OilCase (is_above front o) o.line O14 r)
    c.fault_if-lacking.result c.merge.result c.merge-2.result lacking
    (both_are (OilCase (is_strange_mode o) o.line O12) (OilCase (is_above front o) o.line O14) c.fault_if-strange.result c.fault_if-above.result c.merge.result strange above c.merge.ensures)
    c.merge-2.ensures)
    c.merge-3.ensures
