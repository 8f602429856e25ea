use Rattle.std.proofs.Common.{take}
use Rattle.sloth_base.specs.declared.refusal.Code.TheVariants.{A5, A6}
use Rattle.sloth_base.specs.declared.refusal.Part.TheVariants.{Src}
use Rattle.sloth_base.proofs.Kept.{both_are}
use Rattle.sloth_base.proofs.Cases.{case_found}
use Rattle.asm_lines.specs.Faults.{SourceCase}
use Rattle.asm_parse.specs.NameFaults.{is_misnamed, is_beyond}
use Rattle.asm_parse.proofs.body_faults.inner_fault.Goals as goal

pub returns : goal.returns
returns c =
    let l = c.args.line.now in
    let n = c.args.number in
    let test = is_misnamed c.args.scope.now c.args.labels.now (take c.args.count c.args.labels.now) l in
    let misnamed = case_found Src test c.is_misnamed-test.result n A5 c.fault_if-misnamed.result c.fault_if-misnamed.ensures c.is_misnamed-test.ensures in
    let beyond = case_found Src (is_beyond c.args.items l) c.is_beyond.result n A6 c.fault_if-beyond.result c.fault_if-beyond.ensures c.is_beyond.ensures in
    both_are (SourceCase test n A5) (SourceCase (is_beyond c.args.items l) n A6) c.fault_if-misnamed.result c.fault_if-beyond.result c.merge.result misnamed beyond c.merge.ensures
