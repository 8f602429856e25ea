-- What the steps of reading tell of the whole file.
use Rattle.std.proofs.Common.{◌≡◌, ◌<◌, ◌+◌, ◌*◌, ◌^◌, ℕ, List, [], length, take, drop, sym, ◌∙◌, ap, subst, arith}
use Rattle.std.specs.Prelude.{Result, Ok, Err, IfOk}
use Rattle.sloth_base.specs.ImageRange.{service_limit}
use Rattle.sloth_base.specs.declared.image.Image.{Image}
use Rattle.image_file.specs.declared.header.Sizes.{Sizes}
use Rattle.elf_image.specs.ElfText.{ElfText, note_bytes}
use Rattle.elf_image.specs.Faults.{Description, IsElfErrorOf, HasNote, IsFramed, described_bytes}
use Rattle.elf_image.specs.Reading.{AreNamesAndMarks, HasDescriptionSizes, IsContentsError, IsDescriptionError, IsDescription, IsNote, IsNoteError, description_at}
use Rattle.image_file.specs.Reading.{IsMarksError, IsPartsError, NoMarks}
use Rattle.image_file.specs.declared.read.ElfFault.TheVariants as fault
use Rattle.image_file.specs.declared.read.ImageFault.{ImageFault}
use Rattle.image_file.specs.declared.read.ImageFault.TheVariants as missing
use Rattle.image_file.specs.declared.read.ElfFault.{ElfFault}
use Rattle.image_file.specs.declared.read.FileError.{FileError}
use Rattle.image_file.specs.declared.read.FileError.TheVariants as failure
use Rattle.elf_image.proofs.Faulted.{short-note}
use Rattle.elf_image.proofs.Descriptions.{parts_of, read-right, right-read, stands}
use Rattle.elf_image.proofs.Notes.{length-note, one-description}
use Rattle.elf_image.proofs.Whole.{image_of, is-elf, memory_in, note-length}

-- two facts of a value that is there
pub both-ok : {A E : Type 0} (r : Result A E) (P Q R : A → Type 0) → ((a : A) → P a → Q a → R a) → IfOk r P → IfOk r Q → IfOk r R
both-ok (Ok a) P Q R h p q = h a p q
both-ok (Err e) P Q R h p q = tt

-- parts that are missing are a fault of the description
pub parts-miss : (f : ImageFault) (description : List ℕ) (s : Sizes) → HasDescriptionSizes description s → IsPartsError (failure.Fault f) description 16 s
    → IsDescriptionError (failure.Fault fault.E7) description
parts-miss missing.I2 description s has h = λ d w e. h (parts_of d) [] (stands description s d has w e)
parts-miss missing.I1 description s has h = absurd h
parts-miss missing.I3 description s has h = absurd h
parts-miss missing.I4 description s has h = absurd h
parts-miss missing.I5 description s has h = absurd h

-- marks that are missing are a fault of the contents
pub marks-miss : (f : ImageFault) (file : List ℕ) (tasks funcs counters : List (List ℕ)) (at count size s n : ℕ)
    → s ≡ service_limit (length counters) → n ≡ length funcs → IsMarksError (failure.Fault f) file at count s n size
    → IsContentsError (failure.Fault fault.E8) file tasks funcs counters at count size
marks-miss missing.I3 file tasks funcs counters at count size s n services few h =
    λ image read.
    let N : ℕ → ℕ → Type 0 = λ x y. NoMarks file at count x y size in
    (subst (λ x. N x (length funcs)) services (subst (N s) few h)) image.marks (drop (at + length image.marks * 12) file) read.counted read.marks.right read.marks.are
marks-miss missing.I1 file tasks funcs counters at count size s n services few h = absurd h
marks-miss missing.I2 file tasks funcs counters at count size s n services few h = absurd h
marks-miss missing.I4 file tasks funcs counters at count size s n services few h = absurd h
marks-miss missing.I5 file tasks funcs counters at count size s n services few h = absurd h

module _ (file : List ℕ) (size note : ℕ) (frame : IsFramed file size note) where
  -- a note that is none's is a fault
  pub note-fails : (f : FileError ElfFault) → IsNoteError f (drop (116 + size) file) → IsElfErrorOf f file
  note-fails (failure.Fault fault.E7) h =
      (size, note, frame, λ d has. h (described_bytes d) (short-note file size note d frame has) has.are)
  note-fails (failure.Fault fault.E1) h = absurd h
  note-fails (failure.Fault fault.E2) h = absurd h
  note-fails (failure.Fault fault.E3) h = absurd h
  note-fails (failure.Fault fault.E4) h = absurd h
  note-fails (failure.Fault fault.E5) h = absurd h
  note-fails (failure.Fault fault.E6) h = absurd h
  note-fails (failure.Fault fault.E8) h = absurd h
  note-fails failure.Memory h = h

  module _ (n : ℕ) (is : IsNote (drop (116 + size) file) n) where
    short : length (take n (drop 20 (drop (116 + size) file))) < 2 ^ 32
    short =
        let e = length-note (take n (drop 20 (drop (116 + size) file))) in
        let whole : length (note_bytes (take n (drop 20 (drop (116 + size) file)))) ≡ note = ap (λ x. length x) (sym is.are) ∙ note-length file size note frame in
        let word = frame.headers.note_size.word in
        omega (arith, e, whole, word)

    -- a description that is none is a fault
    pub description-fails : (f : FileError ElfFault) → IsDescriptionError f (take n (drop 20 (drop (116 + size) file))) → IsElfErrorOf f file
    description-fails (failure.Fault fault.E7) h = (
      size,
      note,
      frame,
      λ d has.
          let same : take n (drop 20 (drop (116 + size) file)) ≡ described_bytes d =
          one-description (take n (drop 20 (drop (116 + size) file))) (described_bytes d) short (short-note file size note d frame has) (sym is.are ∙ has.are) in
          h d has.within same,
    )
    description-fails (failure.Fault fault.E1) h = absurd h
    description-fails (failure.Fault fault.E2) h = absurd h
    description-fails (failure.Fault fault.E3) h = absurd h
    description-fails (failure.Fault fault.E4) h = absurd h
    description-fails (failure.Fault fault.E5) h = absurd h
    description-fails (failure.Fault fault.E6) h = absurd h
    description-fails (failure.Fault fault.E8) h = absurd h
    description-fails failure.Memory h = h

    module _ (tasks funcs counters : List (List ℕ)) (at count : ℕ)
        (whole : IsDescription (take n (drop 20 (drop (116 + size) file))) tasks funcs counters at count) where
      has-note : HasNote file size (description_at (take n (drop 20 (drop (116 + size) file))) tasks funcs counters at count)
      has-note = record {
        within = whole.within;
        are = is.are ∙ ap note_bytes whole.are;
      }

      -- names or marks that are not right are a fault
      pub contents-fail : (f : FileError ElfFault) → IsContentsError f (take n (drop 20 (drop (116 + size) file))) tasks funcs counters at count size → IsElfErrorOf f file
      contents-fail (failure.Fault fault.E8) h = (
        size,
        note,
        description_at (take n (drop 20 (drop (116 + size) file))) tasks funcs counters at count,
        frame,
        has-note,
        λ marks right.
            h (record { tasks = tasks; funcs = funcs; counters = counters; memory = []; marks = marks })
            (read-right (take n (drop 20 (drop (116 + size) file))) tasks funcs counters at count size [] marks whole right),
      )
      contents-fail (failure.Fault fault.E1) h = absurd h
      contents-fail (failure.Fault fault.E2) h = absurd h
      contents-fail (failure.Fault fault.E3) h = absurd h
      contents-fail (failure.Fault fault.E4) h = absurd h
      contents-fail (failure.Fault fault.E5) h = absurd h
      contents-fail (failure.Fault fault.E6) h = absurd h
      contents-fail (failure.Fault fault.E7) h = absurd h
      contents-fail failure.Memory h = h

      same-image : (image : Image) (memory : List ℕ) → image.tasks ≡ tasks → image.funcs ≡ funcs → image.counters ≡ counters → image.memory ≡ memory
          → image_of memory (description_at [] tasks funcs counters 0 0) image.marks ≡ image
      same-image image memory t f c m =
          ap (λ x. record { tasks = x; funcs = funcs; counters = counters; memory = memory; marks = image.marks }) (sym t)
          ∙ ap (λ x. record { tasks = image.tasks; funcs = x; counters = counters; memory = memory; marks = image.marks }) (sym f)
          ∙ ap (λ x. record { tasks = image.tasks; funcs = image.funcs; counters = x; memory = memory; marks = image.marks }) (sym c)
          ∙ ap (λ x. record { tasks = image.tasks; funcs = image.funcs; counters = image.counters; memory = x; marks = image.marks }) (sym m)

      -- names and marks that are right are an image's
      pub elf-read : (image : Image) → AreNamesAndMarks (take n (drop 20 (drop (116 + size) file))) tasks funcs counters at count size image
          → image.memory ≡ memory_in file size → ElfText file image
      elf-read image read memory =
          let d : Description = description_at (take n (drop 20 (drop (116 + size) file))) tasks funcs counters at count in
          let right = right-read (take n (drop 20 (drop (116 + size) file))) tasks funcs counters at count size image whole read in
          let is_elf = is-elf file size note d image.marks frame has-note right in
          subst (λ x. ElfText file x) (same-image image (memory_in file size) read.tasks_are read.funcs_are read.counters_are memory) is_elf
