-- The faults of an ELF file, each as a fact of the file's bytes.
use Rattle.std.specs.Prelude.{◌≡◌, ◌≢◌, ◌≤◌, ◌<◌, ◌+◌, ◌*◌, ◌%◌, ◌^◌, ℕ, List, ◌∷◌, [], ◌++◌, take, drop, length, All, ⊤}
use Rattle.std.specs.List.{flat_map}
use Rattle.sloth_base.specs.ImageRange.{IsMark, AreAscending, service_limit}
use Rattle.sloth_base.specs.declared.image.Mark.{Mark}
use Rattle.sloth_base.specs.declared.image.Image.{Image}
use Rattle.sloth_base.specs.Limits.{task_limit, counter_limit, body_limit, mark_limit}
use Rattle.sloth_base.specs.MemoryMap.{memory_bytes}
use Rattle.image_file.specs.Fields.{four_bytes}
use Rattle.image_file.specs.ImageText.{mark_bytes, name_bytes}
use Rattle.image_file.specs.Parts.{AreRightNames}
use Rattle.elf_image.specs.ElfText.{ElfText, elf_magic, elf_header, load_header, note_header, note_bytes}
use Rattle.image_file.specs.declared.read.ElfFault.{ElfFault}
use Rattle.image_file.specs.declared.read.ElfFault.TheVariants as fault
use Rattle.image_file.specs.declared.read.FileError.{FileError}
use Rattle.image_file.specs.declared.read.FileError.TheVariants as failure

-- the file begins as each ELF file does
abbrev pub HasElfMagic : List ℕ → Type 0
HasElfMagic file = take 4 file ≡ elf_magic

-- its ELF header is the one
pub record HasElfHeader (file : List ℕ) : Type 0 where
  pub long : 116 ≤ length file
  pub header : take 52 file ≡ elf_header

-- so many bytes of memory, whole words
pub record IsMemorySize (size : ℕ) : Type 0 where
  pub fits : size ≤ memory_bytes
  pub whole_words : size % 4 ≡ 0

-- its first program header is that of so many bytes of memory
pub record HasLoadHeader (file : List ℕ) (size : ℕ) : Type 0 where
  pub elf : HasElfHeader file
  pub memory : IsMemorySize size
  pub header : take 32 (drop 52 file) ≡ load_header size

-- a note of so many bytes, a number of 32 bits
pub record IsNoteSize (note : ℕ) : Type 0 where
  pub word : note < 2 ^ 32
  pub long : 36 ≤ note
  pub whole_words : note % 4 ≡ 0

-- its second program header is that of a note of so many bytes behind the memory
pub record HasNoteHeader (file : List ℕ) (size note : ℕ) : Type 0 where
  pub load : HasLoadHeader file size
  pub note_size : IsNoteSize note
  pub header : take 32 (drop 84 file) ≡ note_header size note

-- and it ends with the note
pub record IsFramed (file : List ℕ) (size note : ℕ) : Type 0 where
  pub headers : HasNoteHeader file size note
  pub ends : length file ≡ 116 + size + note

-- what a description has, before anything is asked of it: names of any bytes, the number of marks, and the bytes in which they stand
pub record Description : Type 0 where
  pub tasks : List (List ℕ)
  pub funcs : List (List ℕ)
  pub counters : List (List ℕ)
  pub count : ℕ
  pub marks : List ℕ

-- its numbers keep the limits, and each mark has twelve bytes
pub record IsWithin (d : Description) : Type 0 where
  pub few_tasks : length d.tasks ≤ task_limit
  pub few_functions : length d.funcs ≤ body_limit
  pub few_counters : length d.counters ≤ counter_limit
  pub few_marks : d.count ≤ mark_limit
  pub twelve_each : length d.marks ≡ d.count * 12

-- its bytes
abbrev pub described_bytes : Description → List ℕ
described_bytes d =
    flat_map four_bytes (length d.tasks ∷ length d.funcs ∷ length d.counters ∷ d.count ∷ [])
    ++ (flat_map name_bytes d.tasks ++ (flat_map name_bytes d.funcs ++ (flat_map name_bytes d.counters ++ d.marks)))

-- the file's note has this description
pub record HasNote (file : List ℕ) (size : ℕ) (d : Description) : Type 0 where
  pub within : IsWithin d
  pub are : drop (116 + size) file ≡ note_bytes (described_bytes d)

-- the names are right, and these marks are written there, each on a word of so many bytes of memory and with fields in range
pub record AreRight (size : ℕ) (d : Description) (marks : List Mark) : Type 0 where
  pub names : AreRightNames d.tasks d.funcs d.counters
  pub counted : length marks ≡ d.count
  pub written : d.marks ≡ flat_map mark_bytes marks
  pub each : All (IsMark (service_limit (length d.counters)) (length d.funcs) size) marks
  pub ascending : AreAscending marks

-- where a fault is the first of a file
abbrev pub IsFirstElfFault : ElfFault → List ℕ → Type 0
IsFirstElfFault fault.E1 file = ¬ (HasElfMagic file)
IsFirstElfFault fault.E2 file = HasElfMagic file × (length file < 116)
IsFirstElfFault fault.E3 file = HasElfMagic file × (116 ≤ length file) × ¬ (HasElfHeader file)
IsFirstElfFault fault.E4 file = HasElfHeader file × ((size : ℕ) → ¬ (HasLoadHeader file size))
IsFirstElfFault fault.E5 file = (size : ℕ) × HasLoadHeader file size × ((note : ℕ) → ¬ (HasNoteHeader file size note))
IsFirstElfFault fault.E6 file = (size : ℕ) × (note : ℕ) × HasNoteHeader file size note × (length file ≢ 116 + size + note)
IsFirstElfFault fault.E7 file = (size : ℕ) × (note : ℕ) × IsFramed file size note × ((d : Description) → ¬ (HasNote file size d))
IsFirstElfFault fault.E8 file =
    (size : ℕ) × (note : ℕ) × (d : Description) × IsFramed file size note × HasNote file size d × ((marks : List Mark) → ¬ (AreRight size d marks))

-- what an error says of a file; want of memory says nothing
abbrev pub IsElfErrorOf : FileError ElfFault → List ℕ → Type 0
IsElfErrorOf (failure.Fault fault) file = IsFirstElfFault fault file
IsElfErrorOf failure.Memory file = ⊤

-- each list of bytes is some image's ELF file or has a first fault: none is neither
abbrev pub NoneIsNeither : Type 0
NoneIsNeither = (file : List ℕ) → ((image : Image) → ¬ (ElfText file image)) → ((fault : ElfFault) → ¬ (IsFirstElfFault fault file)) → ⊥

-- none is both
abbrev pub NoneIsBoth : Type 0
NoneIsBoth = (file : List ℕ) (image : Image) (fault : ElfFault) → ElfText file image → ¬ (IsFirstElfFault fault file)

-- the first fault is one
abbrev pub FaultIsOne : Type 0
FaultIsOne = (file : List ℕ) (one other : ElfFault) → IsFirstElfFault one file → IsFirstElfFault other file → one ≡ other
