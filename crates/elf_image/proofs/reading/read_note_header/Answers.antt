use Rattle.std.proofs.Common.{◌≡◌, ◌∙◌, ℕ, sym, subst}
use Rattle.std.proofs.lemmas.Bool.{true≢false}
use Rattle.elf_image.specs.Faults.{HasNoteHeader}
use Rattle.elf_image.proofs.Frames.{note-is}
use Rattle.elf_image.proofs.reading.read_note_header.Goals as goal

pub returns-then-not-is_header-clause-failed : goal.returns-then-not-is_header-clause-failed
returns-then-not-is_header-clause-failed c =
    rw c.into.ensures (
      c.args.size,
      c.requires,
      λ m has.
          let same : c.read_u32-note.result ≡ m = note-is c.args.bytes.now c.args.size c.read_u32-note.result m _ c.read_u32-note.ensures.stands c.read_u32-note.type_inv has in
          let own : HasNoteHeader c.args.bytes.now c.args.size c.read_u32-note.result = subst (λ (k : ℕ). HasNoteHeader c.args.bytes.now c.args.size k) (sym same) has in
          true≢false (sym (c.in_ok-is_header.ensures.1 own.header) ∙ c.if-not-is_header.true),
    )

pub returns-then-not-is_note_size-clause-failed : goal.returns-then-not-is_note_size-clause-failed
returns-then-not-is_note_size-clause-failed c =
    rw c.into-then-not-is_note_size.ensures (
      c.args.size,
      c.requires,
      λ m has.
          let same : c.read_u32-note.result ≡ m = note-is c.args.bytes.now c.args.size c.read_u32-note.result m _ c.read_u32-note.ensures.stands c.read_u32-note.type_inv has in
          let own : HasNoteHeader c.args.bytes.now c.args.size c.read_u32-note.result = subst (λ (k : ℕ). HasNoteHeader c.args.bytes.now c.args.size k) (sym same) has in
          true≢false (sym (c.is_note_size.ensures.1 own.note_size) ∙ c.if-not-is_note_size.true),
    )

pub returns-clause-read : goal.returns-clause-read
returns-clause-read c = record {
  load = c.requires;
  note_size = c.is_note_size.ensures.0 c.if-not-is_note_size.false;
  header = c.in_ok-is_header.ensures.0 c.if-not-is_header.false;
}
