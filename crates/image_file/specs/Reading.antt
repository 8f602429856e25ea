-- What the steps of reading tell.
use Rattle.std.specs.Prelude.{◌≡◌, ◌≢◌, ◌≤◌, ◌+◌, ◌*◌, ℕ, List, [], ◌++◌, take, drop, slice_range, length, ⊤}
use Rattle.std.specs.List.{flat_map, All}
use Rattle.sloth_base.specs.declared.image.Mark.{Mark}
use Rattle.sloth_base.specs.ImageRange.{IsMark, AreAscending}
use Rattle.image_file.specs.ImageText.{mark_bytes, name_bytes}
use Rattle.image_file.specs.Limits.{SizesFit, header_size}
use Rattle.image_file.specs.Parts.{Parts, HasParts, PartsStand, AreRight, header_before}
use Rattle.image_file.specs.declared.header.Sizes.{Sizes}
use Rattle.image_file.specs.declared.read.ImageFault.TheVariants as fault
use Rattle.image_file.specs.declared.read.ImageFault.{ImageFault}
use Rattle.image_file.specs.declared.read.FileError.{FileError}
use Rattle.image_file.specs.declared.read.FileError.TheVariants as failure

-- the header holds these numbers, within the limits
pub record HasSizes (file : List ℕ) (sizes : Sizes) : Type 0 where
  pub within : SizesFit sizes
  pub long : header_size sizes.counters ≤ length file
  pub are : file ≡ header_before sizes (drop (header_size sizes.counters) file)

-- names stand at `at`, up to `end`
pub record NamesStand (file : List ℕ) (at end : ℕ) (names : List (List ℕ)) : Type 0 where
  pub within : end ≤ length file
  pub are : drop at file ≡ flat_map name_bytes names ++ drop end file

-- at `at` there are not so many names
abbrev pub NoNames : List ℕ → ℕ → ℕ → Type 0
NoNames file at count = (names : List (List ℕ)) (rest : List ℕ) → length names ≡ count → drop at file ≢ flat_map name_bytes names ++ rest

-- what an error says of so many names from this place on
abbrev pub IsNamesError : FileError ImageFault → List ℕ → ℕ → ℕ → Type 0
IsNamesError (failure.Fault fault.I1) file at count = ⊥
IsNamesError (failure.Fault fault.I2) file at count = NoNames file at count
IsNamesError (failure.Fault fault.I3) file at count = ⊥
IsNamesError (failure.Fault fault.I4) file at count = ⊥
IsNamesError (failure.Fault fault.I5) file at count = ⊥
IsNamesError failure.Memory file at count = ⊤

-- the parts whose memory begins at `at`, with the marks behind it
abbrev pub parts_at : List ℕ → List (List ℕ) → List (List ℕ) → List (List ℕ) → ℕ → ℕ → ℕ → Parts
parts_at file tasks funcs counters at size count = record {
  tasks = tasks;
  funcs = funcs;
  counters = counters;
  memory = take size (drop at file);
  count = count;
  marks = take (count * 12) (drop (at + size) file);
}

-- behind the names that stand at `at` there are the memory, from `memory` on, and the marks
pub record NamedPartsStand (file : List ℕ) (at : ℕ) (sizes : Sizes) (tasks funcs counters : List (List ℕ)) (memory : ℕ) : Type 0 where
  pub parts : PartsStand file at sizes (parts_at file tasks funcs counters memory sizes.memory sizes.marks)
      (drop (memory + sizes.memory + sizes.marks * 12) file)
  pub long : memory + sizes.memory + sizes.marks * 12 ≤ length file

-- what an error says of parts of these numbers at a place: the fault, that none stand there
abbrev pub IsPartsError : FileError ImageFault → List ℕ → ℕ → Sizes → Type 0
IsPartsError (failure.Fault fault.I1) file at sizes = ⊥
IsPartsError (failure.Fault fault.I2) file at sizes = (parts : Parts) (rest : List ℕ) → ¬ (PartsStand file at sizes parts rest)
IsPartsError (failure.Fault fault.I3) file at sizes = ⊥
IsPartsError (failure.Fault fault.I4) file at sizes = ⊥
IsPartsError (failure.Fault fault.I5) file at sizes = ⊥
IsPartsError failure.Memory file at sizes = ⊤

-- the file has all its parts: names of any bytes, memory from `at` on, and the marks behind it, as many as `count`
pub record HasOutline (file : List ℕ) (tasks funcs counters : List (List ℕ)) (at size count : ℕ) : Type 0 where
  pub parts : HasParts file (parts_at file tasks funcs counters at size count) (drop (at + size + count * 12) file)
  pub long : at + size + count * 12 ≤ length file

-- these marks are right for these parts and rise, and nothing follows them
pub record AreLastMarks (file : List ℕ) (tasks funcs counters : List (List ℕ)) (at size count : ℕ) (marks : List Mark) : Type 0 where
  pub right : AreRight (parts_at file tasks funcs counters at size count) marks
  pub ascending : AreAscending marks
  pub ends : drop (at + size + count * 12) file ≡ []

-- a mark in range stands at `at`
pub record MarkStands (file : List ℕ) (at services funcs size : ℕ) (mark : Mark) : Type 0 where
  pub is : drop at file ≡ mark_bytes mark ++ drop (at + 12) file
  pub right : IsMark services funcs size mark

-- none stands there
abbrev pub NoMark : List ℕ → ℕ → ℕ → ℕ → ℕ → Type 0
NoMark file at services funcs size = (mark : Mark) (rest : List ℕ) → IsMark services funcs size mark → drop at file ≢ mark_bytes mark ++ rest

-- so many marks in range stand at `at`
pub record MarksStand (file : List ℕ) (at services funcs size : ℕ) (marks : List Mark) : Type 0 where
  pub are : drop at file ≡ flat_map mark_bytes marks ++ drop (at + length marks * 12) file
  pub right : All (IsMark services funcs size) marks

-- no marks in range stand from this place on
abbrev pub NoMarks : List ℕ → ℕ → ℕ → ℕ → ℕ → ℕ → Type 0
NoMarks file at count services funcs size = (marks : List Mark) (rest : List ℕ) → length marks ≡ count → All (IsMark services funcs size) marks
    → drop at file ≢ flat_map mark_bytes marks ++ rest

-- what an error says of so many marks from this place on
abbrev pub IsMarksError : FileError ImageFault → List ℕ → ℕ → ℕ → ℕ → ℕ → ℕ → Type 0
IsMarksError (failure.Fault fault.I1) file at count services funcs size = ⊥
IsMarksError (failure.Fault fault.I2) file at count services funcs size = ⊥
IsMarksError (failure.Fault fault.I3) file at count services funcs size = NoMarks file at count services funcs size
IsMarksError (failure.Fault fault.I4) file at count services funcs size = ⊥
IsMarksError (failure.Fault fault.I5) file at count services funcs size = ⊥
IsMarksError failure.Memory file at count services funcs size = ⊤

-- the header does not hold the numbers of parts within the limits
abbrev pub NoSizes : List ℕ → Type 0
NoSizes file = (sizes : Sizes) → ¬ (HasSizes file sizes)

-- the name at `at` ends at `end`
pub record NameEnds (file : List ℕ) (at end : ℕ) : Type 0 where
  pub above : at + 1 ≤ end
  pub within : end ≤ length file
  pub is : drop at file ≡ name_bytes (slice_range file (at + 1) end) ++ drop end file
