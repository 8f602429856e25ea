use Rattle.std.proofs.Common.{take}
use Rattle.std.proofs.lemmas.Result.{on_ok_weaker}
use Rattle.sloth_base.specs.declared.refusal.Code.TheVariants.{A5, A6}
use Rattle.sloth_base.specs.declared.refusal.Part.TheVariants.{Src}
use Rattle.asm_lines.specs.Faults.{SourceCase}
use Rattle.asm_parse.specs.NameFaults.{is_taken}
use Rattle.stage_faults.specs.ToldNames.{is_symbol_beyond}
use Rattle.stage_faults.proofs.Telling.{case_is, adds_both}
use Rattle.stage_faults.proofs.notes.add_faults.Goals as goal

pub returns : goal.returns
returns c =
    let l = c.args.line.now in
    let n = c.args.number in
    let t = is_taken (take c.args.count c.args.symbols.now) l in
    let m = is_symbol_beyond c.args.count c.args.bytes l in
    let a = c.args.notes.now.items in
    let b = c.add_named.new.notes.items in
    let d = c.add_bare.new.notes.items in
    on_ok_weaker c.add_bare.result
    (λ told.
    adds_both Src (SourceCase t n A5) (SourceCase m n A6) a b d (case_is Src t c.is_taken-taken.result n A5 a b c.is_taken-taken.ensures (c.in_ok-add_named.ensures Src))
    (case_is Src m c.is_symbol_beyond-beyond.result n A6 b d c.is_symbol_beyond-beyond.ensures (told Src)))
    c.add_bare.ensures
