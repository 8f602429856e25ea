use Rattle.std.proofs.Common.{◌∙◌, ◌⊎◌, ap}
use Rattle.std.specs.Prelude.{is_none}
use Rattle.sloth_base.specs.declared.refusal.Code.TheVariants.{O8, O9, O10, O12}
use Rattle.sloth_base.proofs.Kept.{both_are}
use Rattle.oil_table.specs.Cases.{OilCase}
use Rattle.oil_table.specs.Uses.{is_second}
use Rattle.oil_rules.specs.AttributeFaults.{refers_to_none, is_refused}
use Rattle.sloth_base.specs.declared.refusal.Part.TheVariants.{Oil}
use Rattle.sloth_base.proofs.Cases.{case_found}
use Rattle.oil_rules.proofs.judging.row_fault.Goals as goal

pub returns : goal.returns
returns c =
    let row = c.args.row in
    let a = c.args.attr.now in
    let before = c.args.before.now.attrs in
    let none = refers_to_none c.args.objects.now c.args.scheduler row a.value in
    let unknown = case_found Oil (is_none row) c.is_unlisted.result a.line O8 c.fault_if-unknown.result c.fault_if-unknown.ensures c.is_unlisted.ensures in
    let second = case_found Oil (is_second 0 row before a) c.is_second.result a.line O9 c.fault_if-second.result c.fault_if-second.ensures
    (c.is_second.ensures ∙ ap (λ depth. is_second depth row before a) c.requires) in
    let missing = case_found Oil none c.refers_to_none-missing.result a.line O10 c.fault_if-missing.result c.fault_if-missing.ensures c.refers_to_none-missing.ensures in
    let refused = case_found Oil (is_refused row a.value) c.is_refused.result a.line O12 c.fault_if-refused.result c.fault_if-refused.ensures c.is_refused.ensures in
    both_are (OilCase (is_none row) a.line O8) (λ r. OilCase (is_second 0 row before a) a.line O9 r ⊎ (OilCase none a.line O10 r ⊎ OilCase (is_refused row a.value) a.line O12 r))
    c.fault_if-unknown.result c.merge-2.result c.merge-3.result unknown
    (both_are (OilCase (is_second 0 row before a) a.line O9) (λ r. OilCase none a.line O10 r ⊎ OilCase (is_refused row a.value) a.line O12 r)
    c.fault_if-second.result c.merge.result c.merge-2.result second
    (both_are (OilCase none a.line O10) (OilCase (is_refused row a.value) a.line O12) c.fault_if-missing.result c.fault_if-refused.result c.merge.result missing refused c.merge.ensures)
    c.merge-2.ensures)
    c.merge-3.ensures
