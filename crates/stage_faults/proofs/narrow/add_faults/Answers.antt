use Rattle.std.proofs.Common.{◌⊎◌}
use Rattle.std.proofs.lemmas.Result.{on_ok_weaker}
use Rattle.sloth_base.specs.declared.refusal.Part.TheVariants.{Src}
use Rattle.sloth_base.specs.declared.refusal.Code.TheVariants.{A1, A2, A3, A4}
use Rattle.asm_lines.specs.Faults.{SourceCase, is_a2, is_a3}
use Rattle.stage_faults.specs.ToldLines.{is_told_a1, is_told_a4}
use Rattle.stage_faults.proofs.Telling.{case_is, adds_both}
use Rattle.stage_faults.proofs.narrow.add_faults.Goals as goal

pub returns : goal.returns
returns c =
    let n = c.args.number in
    let i = c.args.inside in
    let s = c.args.line.now in
    let t = is_told_a1 i c.args.earlier s in
    let a = c.args.notes.now.items in
    let b = c.add_bare.new.notes.items in
    let d = c.add_bare-2.new.notes.items in
    let e = c.add_bare-3.new.notes.items in
    let f = c.add_bare-4.new.notes.items in
    let one = case_is Src t c.is_told_a1.result n A1 a b c.is_told_a1.ensures (c.in_ok-add_bare.ensures Src) in
    let two = case_is Src (is_a2 i s) c.is_a2.result n A2 b d c.is_a2.ensures (c.in_ok-add_bare-2.ensures Src) in
    let three = case_is Src (is_a3 s) c.is_a3.result n A3 d e c.is_a3.ensures (c.in_ok-add_bare-3.ensures Src) in
    on_ok_weaker c.add_bare-4.result
    (λ told.
    adds_both Src (SourceCase t n A1) (λ r. SourceCase (is_a2 i s) n A2 r ⊎ (SourceCase (is_a3 s) n A3 r ⊎ SourceCase (is_told_a4 s) n A4 r)) a b f one
    (adds_both Src (SourceCase (is_a2 i s) n A2) (λ r. SourceCase (is_a3 s) n A3 r ⊎ SourceCase (is_told_a4 s) n A4 r) b d f two
    (adds_both Src (SourceCase (is_a3 s) n A3) (SourceCase (is_told_a4 s) n A4) d e f three (case_is Src (is_told_a4 s) c.is_told_a4.result n A4 e f c.is_told_a4.ensures (told Src)))))
    c.add_bare-4.ensures
