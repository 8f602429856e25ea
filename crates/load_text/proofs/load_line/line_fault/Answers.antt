use Rattle.std.proofs.Common.{◌⊎◌}
use Rattle.sloth_base.specs.declared.refusal.Part.TheVariants.{Load}
use Rattle.sloth_base.specs.declared.refusal.Code.TheVariants.{L1, L2, L3, L4}
use Rattle.sloth_base.specs.Cases.{CaseOf}
use Rattle.sloth_base.proofs.Kept.{both_are}
use Rattle.sloth_base.proofs.Cases.{case_found}
use Rattle.load_text.specs.LoadText.{is_l1, is_l2, is_l3, is_l4}
use Rattle.load_text.proofs.load_line.line_fault.Goals as goal

pub returns : goal.returns
returns c =
    let n = c.args.number in
    let ts = c.args.tasks.now in
    let cs = c.args.counters.now in
    let b = c.args.before.now in
    let l = c.args.line.now in
    let one = case_found Load (is_l1 l) c.is_l1.result n L1 c.fault_if-l1.result c.fault_if-l1.ensures c.is_l1.ensures in
    let two = case_found Load (is_l2 ts cs l) c.is_l2.result n L2 c.fault_if-l2.result c.fault_if-l2.ensures c.is_l2.ensures in
    let three = case_found Load (is_l3 ts cs b l) c.is_l3-l3.result n L3 c.fault_if-l3.result c.fault_if-l3.ensures c.is_l3-l3.ensures in
    let four = case_found Load (is_l4 l) c.is_l4.result n L4 c.fault_if-l4.result c.fault_if-l4.ensures c.is_l4.ensures in
    both_are (CaseOf Load (is_l1 l) n L1) (λ r. CaseOf Load (is_l2 ts cs l) n L2 r ⊎ (CaseOf Load (is_l3 ts cs b l) n L3 r ⊎ CaseOf Load (is_l4 l) n L4 r))
    c.fault_if-l1.result c.merge-2.result c.merge-3.result one
    (both_are (CaseOf Load (is_l2 ts cs l) n L2) (λ r. CaseOf Load (is_l3 ts cs b l) n L3 r ⊎ CaseOf Load (is_l4 l) n L4 r) c.fault_if-l2.result c.merge.result c.merge-2.result two
    (both_are (CaseOf Load (is_l3 ts cs b l) n L3) (CaseOf Load (is_l4 l) n L4) c.fault_if-l3.result c.fault_if-l4.result c.merge.result three four c.merge.ensures)
    c.merge-2.ensures)
    c.merge-3.ensures
