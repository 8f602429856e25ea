-- What the steps of reading tell.
use Rattle.std.specs.Prelude.{◌≡◌, ◌≢◌, ◌≤◌, ◌<◌, ◌+◌, ◌*◌, ◌^◌, ℕ, List, [], ◌∷◌, ◌++◌, take, drop, length, ⊤}
use Rattle.std.specs.List.{flat_map}
use Rattle.sloth_base.specs.ImageRange.{AreAscending, service_limit}
use Rattle.sloth_base.specs.declared.image.Image.{Image}
use Rattle.sloth_base.specs.declared.image.Mark.{Mark}
use Rattle.image_file.specs.Fields.{four_bytes}
use Rattle.image_file.specs.Limits.{SizesFit}
use Rattle.image_file.specs.Parts.{AreRightNames}
use Rattle.image_file.specs.Reading.{MarksStand}
use Rattle.image_file.specs.declared.header.Sizes.{Sizes}
use Rattle.elf_image.specs.ElfText.{note_bytes}
use Rattle.elf_image.specs.Faults.{Description, IsFramed, IsWithin, described_bytes}
use Rattle.image_file.specs.declared.read.ElfFault.TheVariants as fault
use Rattle.image_file.specs.declared.read.ElfFault.{ElfFault}
use Rattle.image_file.specs.declared.read.FileError.{FileError}
use Rattle.image_file.specs.declared.read.FileError.TheVariants as failure

-- the file has the headers of so many bytes of memory and of the note with which it ends
abbrev pub IsFramedAt : List ℕ → ℕ → Type 0
IsFramedAt file size = (note : ℕ) × IsFramed file size note

-- this is a note with a description of so many bytes
pub record IsNote (note : List ℕ) (size : ℕ) : Type 0 where
  pub long : 20 + size ≤ length note
  pub are : note ≡ note_bytes (take size (drop 20 note))

-- what an error says of a note: the fault, that it is the note of no description; want of memory says nothing
abbrev pub IsNoteError : FileError ElfFault → List ℕ → Type 0
IsNoteError (failure.Fault fault.E7) note = (description : List ℕ) → length description < 2 ^ 32 → note ≢ note_bytes description
IsNoteError (failure.Fault _) note = ⊥
IsNoteError failure.Memory note = ⊤

-- the four numbers of a description, and `rest` behind them
abbrev pub numbers_before : Sizes → List ℕ → List ℕ
numbers_before sizes rest = flat_map four_bytes (sizes.tasks ∷ sizes.funcs ∷ sizes.counters ∷ sizes.marks ∷ []) ++ rest

-- a description begins with these numbers, within the limits; it has no memory
pub record HasDescriptionSizes (description : List ℕ) (sizes : Sizes) : Type 0 where
  pub within : SizesFit sizes
  pub no_memory : sizes.memory ≡ 0
  pub long : 16 ≤ length description
  pub are : description ≡ numbers_before sizes (drop 16 description)

-- what a description has whose marks begin at `at`
abbrev pub description_at : List ℕ → (tasks funcs counters : List (List ℕ)) → ℕ → ℕ → Description
description_at description tasks funcs counters at count = record {
  tasks = tasks;
  funcs = funcs;
  counters = counters;
  count = count;
  marks = take (count * 12) (drop (at + 0) description);
}

-- a description has these names, and ends with so many marks from `at` on
pub record IsDescription (description : List ℕ) (tasks funcs counters : List (List ℕ)) (at count : ℕ) : Type 0 where
  pub within : IsWithin (description_at description tasks funcs counters at count)
  pub are : description ≡ described_bytes (description_at description tasks funcs counters at count)
  pub ends : at + count * 12 ≡ length description

-- what an error says of a description: the fault, that it is none
abbrev pub IsDescriptionError : FileError ElfFault → List ℕ → Type 0
IsDescriptionError (failure.Fault fault.E7) description = (d : Description) → IsWithin d → description ≢ described_bytes d
IsDescriptionError (failure.Fault _) description = ⊥
IsDescriptionError failure.Memory description = ⊤

-- these names are right, and so are these marks, which stand there, for so many bytes of memory
pub record AreRightMarks (file : List ℕ) (tasks funcs counters : List (List ℕ)) (at count size : ℕ) (marks : List Mark) : Type 0 where
  pub names : AreRightNames tasks funcs counters
  pub marks_stand : MarksStand file at (service_limit (length counters)) (length funcs) size marks
  pub counted : length marks ≡ count
  pub ascending : AreAscending marks

-- the names and marks that were read there are right for an image with so many bytes of memory
pub record AreNamesAndMarks (file : List ℕ) (tasks funcs counters : List (List ℕ)) (at count : ℕ) (size : ℕ) (image : Image) : Type 0 where
  pub tasks_are : image.tasks ≡ tasks
  pub funcs_are : image.funcs ≡ funcs
  pub counters_are : image.counters ≡ counters
  pub names : AreRightNames tasks funcs counters
  pub marks : MarksStand file at (service_limit (length counters)) (length funcs) size image.marks
  pub counted : length image.marks ≡ count
  pub ascending : AreAscending image.marks

-- what an error says of the names and marks: the fault, that no marks there are right with these names
abbrev pub IsContentsError : FileError ElfFault → List ℕ → (tasks funcs counters : List (List ℕ)) → ℕ → ℕ → ℕ → Type 0
IsContentsError (failure.Fault fault.E8) file tasks funcs counters at count size =
    (image : Image) → ¬ (AreNamesAndMarks file tasks funcs counters at count size image)
IsContentsError (failure.Fault _) file tasks funcs counters at count size = ⊥
IsContentsError failure.Memory file tasks funcs counters at count size = ⊤
