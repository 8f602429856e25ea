use Rattle.std.proofs.Common.{◌⊎◌}
use Rattle.sloth_base.specs.declared.refusal.Code.TheVariants.{A1, A2, A3, A4}
use Rattle.sloth_base.proofs.Kept.{both_are}
use Rattle.asm_lines.specs.Faults.{SourceCase, is_a1, is_a2, is_a3, is_a4}
use Rattle.sloth_base.specs.declared.refusal.Part.TheVariants.{Src}
use Rattle.sloth_base.proofs.Cases.{case_found}
use Rattle.asm_lines.proofs.source_line.line_fault.Goals as goal

pub returns : goal.returns
returns c =
    let n = c.args.number in
    let i = c.args.inside in
    let s = c.args.line.now in
    let one = case_found Src (is_a1 i s) c.is_a1.result n A1 c.fault_if-a1.result c.fault_if-a1.ensures c.is_a1.ensures in
    let two = case_found Src (is_a2 i s) c.is_a2.result n A2 c.fault_if-a2.result c.fault_if-a2.ensures c.is_a2.ensures in
    let three = case_found Src (is_a3 s) c.is_a3.result n A3 c.fault_if-a3.result c.fault_if-a3.ensures c.is_a3.ensures in
    let four = case_found Src (is_a4 s) c.is_a4.result n A4 c.fault_if-a4.result c.fault_if-a4.ensures c.is_a4.ensures in
    both_are (SourceCase (is_a1 i s) n A1) (λ r. SourceCase (is_a2 i s) n A2 r ⊎ (SourceCase (is_a3 s) n A3 r ⊎ SourceCase (is_a4 s) n A4 r)) c.fault_if-a1.result c.merge-2.result c.merge-3.result one
    (both_are (SourceCase (is_a2 i s) n A2) (λ r. SourceCase (is_a3 s) n A3 r ⊎ SourceCase (is_a4 s) n A4 r) c.fault_if-a2.result c.merge.result c.merge-2.result two
    (both_are (SourceCase (is_a3 s) n A3) (SourceCase (is_a4 s) n A4) c.fault_if-a3.result c.fault_if-a4.result c.merge.result three four c.merge.ensures)
    c.merge-2.ensures)
    c.merge-3.ensures
