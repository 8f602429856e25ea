use Rattle.std.proofs.Common.{take}
use Rattle.sloth_base.specs.declared.refusal.Code.TheVariants.{A5, A6}
use Rattle.sloth_base.specs.declared.refusal.Part.TheVariants.{Src}
use Rattle.sloth_base.proofs.Kept.{both_are}
use Rattle.sloth_base.proofs.Cases.{case_found}
use Rattle.asm_lines.specs.Faults.{SourceCase}
use Rattle.asm_parse.specs.NameFaults.{is_taken, is_too_much}
use Rattle.asm_parse.proofs.apps.symbol_fault.Goals as goal

pub returns : goal.returns
returns c =
    let l = c.args.line.now in
    let n = c.args.n in
    let earlier = take c.args.count c.args.symbols.now in
    let taken = case_found Src (is_taken earlier l) c.is_taken.result n A5 c.fault_if-taken.result c.fault_if-taken.ensures c.is_taken.ensures in
    let much = case_found Src (is_too_much c.args.count c.args.bytes l) c.is_too_much.result n A6 c.fault_if-too_much.result c.fault_if-too_much.ensures c.is_too_much.ensures in
    both_are (SourceCase (is_taken earlier l) n A5) (SourceCase (is_too_much c.args.count c.args.bytes l) n A6) c.fault_if-taken.result c.fault_if-too_much.result c.merge.result taken much c.merge.ensures
