use Rattle.std.proofs.Common.{◌⊎◌}
use Rattle.sloth_base.specs.declared.refusal.Part.TheVariants.{Arr}
use Rattle.sloth_base.specs.declared.refusal.Code.TheVariants.{T1, T2, T3, T4}
use Rattle.sloth_base.specs.Cases.{CaseOf}
use Rattle.sloth_base.proofs.Kept.{both_are}
use Rattle.sloth_base.proofs.Cases.{case_found}
use Rattle.trace_text.specs.ArrivalsText.{is_t1, is_t2, is_t3, is_t4}
use Rattle.trace_text.proofs.arrivals.line_fault.Goals as goal

pub returns : goal.returns
returns c =
    let n = c.args.number in
    let ts = c.args.tasks.now in
    let cs = c.args.counters.now in
    let b = c.args.before.now in
    let l = c.args.line.now in
    let one = case_found Arr (is_t1 l) c.is_t1.result n T1 c.fault_if-t1.result c.fault_if-t1.ensures c.is_t1.ensures in
    let two = case_found Arr (is_t2 ts cs l) c.is_t2.result n T2 c.fault_if-t2.result c.fault_if-t2.ensures c.is_t2.ensures in
    let three = case_found Arr (is_t3 b l) c.is_t3.result n T3 c.fault_if-t3.result c.fault_if-t3.ensures c.is_t3.ensures in
    let four = case_found Arr (is_t4 b l) c.is_t4.result n T4 c.fault_if-t4.result c.fault_if-t4.ensures c.is_t4.ensures in
    both_are (CaseOf Arr (is_t1 l) n T1) (λ r. CaseOf Arr (is_t2 ts cs l) n T2 r ⊎ (CaseOf Arr (is_t3 b l) n T3 r ⊎ CaseOf Arr (is_t4 b l) n T4 r))
    c.fault_if-t1.result c.merge-2.result c.merge-3.result one
    (both_are (CaseOf Arr (is_t2 ts cs l) n T2) (λ r. CaseOf Arr (is_t3 b l) n T3 r ⊎ CaseOf Arr (is_t4 b l) n T4 r) c.fault_if-t2.result c.merge.result c.merge-2.result two
    (both_are (CaseOf Arr (is_t3 b l) n T3) (CaseOf Arr (is_t4 b l) n T4) c.fault_if-t3.result c.fault_if-t4.result c.merge.result three four c.merge.ensures)
    c.merge-2.ensures)
    c.merge-3.ensures
