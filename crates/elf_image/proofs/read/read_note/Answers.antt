use Rattle.std.proofs.Common.{◌≡◌, ◌∙◌, ◌+◌, ◌-◌, sym, ap, arith, length, take, drop}
use Rattle.std.proofs.lemmas.Bool.{true≢false}
use Rattle.elf_image.specs.ElfText.{note_bytes, padding}
use Rattle.elf_image.proofs.Notes.{description-is, length-note, size-is}
use Rattle.elf_image.proofs.read.read_note.Goals as goal

pub returns-then-note-size-clause-failed : goal.returns-then-note-size-clause-failed
returns-then-note-size-clause-failed c =
    rw c.into.ensures (λ d short e.
    let n = c.read_u32-size.result in
    let same : c.read_u32-size.result ≡ length d = size-is c.args.note.now d c.read_u32-size.result _ c.read_u32-size.ensures.stands c.read_u32-size.type_inv short e in
    let whole : length c.args.note.now ≡ length (note_bytes d) = ap (λ x. length x) e in
    let parts = length-note d in
    let padded : length (padding c.read_u32-size.result) ≡ length (padding (length d)) = ap (λ k. length (padding k)) same in
    let is = c.padding_size.ensures.is in
    let differs = c.if-note-size.true in
    omega (arith, same, whole, parts, padded, is, differs))

pub returns-then-not-is_note-clause-failed : goal.returns-then-not-is_note-clause-failed
returns-then-not-is_note-clause-failed c =
    rw c.into-then-not-is_note.ensures (λ d short e.
    let same : c.read_u32-size.result ≡ length d = size-is c.args.note.now d c.read_u32-size.result _ c.read_u32-size.ensures.stands c.read_u32-size.type_inv short e in
    let n : 20 + c.read_u32-size.result - 20 ≡ length d = omega (arith, same) in
    let is : take (20 + c.read_u32-size.result - 20) (drop 20 c.args.note.now) ≡ d = ap (λ k. take k (drop 20 c.args.note.now)) n ∙ description-is c.args.note.now d e in
    true≢false (sym (c.in_ok-is_note.ensures.1 (e ∙ ap note_bytes (sym is))) ∙ c.if-not-is_note.true))

pub returns-clause-read : goal.returns-clause-read
returns-clause-read c =
    let whole = c.if-note-size.false in
    let n : 20 + c.read_u32-size.result - 20 ≡ c.read_u32-size.result = omega arith in
    record {
      long = omega (arith, whole);
      are = c.in_ok-is_note.ensures.0 c.if-not-is_note.false ∙ ap (λ k. note_bytes (take k (drop 20 c.args.note.now))) n;
    }
