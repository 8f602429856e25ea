-- The ELF file of an image: an executable of ELF32 for RISC-V with two program headers, the memory and a note. Numbers are little-endian.
-- (System V ABI, chapters 4 and 5: the ELF header, program headers, notes.)
use Rattle.std.specs.Prelude.{◌≡◌, ◌+◌, ◌-◌, ◌%◌, ℕ, List, [], ◌∷◌, ◌++◌, length, take, codes}
use Rattle.std.specs.List.{flat_map}
use Rattle.sloth_base.specs.MemoryMap.{memory_base, boot_base, memory_bytes}
use Rattle.sloth_base.specs.ImageRange.{InFormat}
use Rattle.sloth_base.specs.declared.image.Image.{Image}
use Rattle.image_file.specs.Fields.{four_bytes, two_bytes}
use Rattle.image_file.specs.ImageText.{name_bytes, mark_bytes}

-- the first four bytes of each ELF file
abbrev pub elf_magic : List ℕ
elf_magic = 127 ∷ codes "ELF"

-- 32 bits, low byte first, version 1, and nine zeros
abbrev pub elf_class : List ℕ
elf_class = 1 ∷ 1 ∷ 1 ∷ 0 ∷ 0 ∷ 0 ∷ 0 ∷ 0 ∷ 0 ∷ 0 ∷ 0 ∷ 0 ∷ []

-- an executable (2) for RISC-V (243) of version 1, which begins with boot; program headers at 52, no section headers, no flags
abbrev pub elf_words : List ℕ
elf_words = two_bytes 2 ++ (two_bytes 243 ++ flat_map four_bytes (1 ∷ boot_base ∷ 52 ∷ 0 ∷ 0 ∷ []))

-- the sizes of this header and of a program header, two program headers, and no section headers
abbrev pub elf_sizes : List ℕ
elf_sizes = flat_map two_bytes (52 ∷ 32 ∷ 2 ∷ 0 ∷ 0 ∷ 0 ∷ [])

-- the ELF header, 52 bytes
unfoldable pub elf_header : List ℕ
elf_header = elf_magic ++ (elf_class ++ (elf_words ++ elf_sizes))

-- The program header of the memory, 32 bytes: it is loaded (1) from place 116 of the file to the base of memory, so many bytes of 2,097,152, which may
-- be read, written and executed (7), aligned to 4.
abbrev pub load_header : ℕ → List ℕ
load_header size = flat_map four_bytes (1 ∷ 116 ∷ memory_base ∷ memory_base ∷ size ∷ memory_bytes ∷ 7 ∷ 4 ∷ [])

-- the program header of the note (4), which stands behind the memory and is read (4), aligned to 4
abbrev pub note_header : ℕ → ℕ → List ℕ
note_header size note = flat_map four_bytes (4 ∷ (116 + size) ∷ 0 ∷ 0 ∷ note ∷ note ∷ 4 ∷ 4 ∷ [])

-- zeros behind so many bytes, up to a multiple of 4
abbrev pub padding : ℕ → List ℕ
padding size = take ((4 - size % 4) % 4) (0 ∷ 0 ∷ 0 ∷ [])

-- the owner of a note, in six bytes with its zero, and two zeros more
abbrev pub owner : List ℕ
owner = codes "SLOTH" ++ 0 ∷ 0 ∷ 0 ∷ []

-- a note: the length of its owner, the length of its description, its kind, the owner, the description and its padding
abbrev pub note_bytes : List ℕ → List ℕ
note_bytes description = flat_map four_bytes (6 ∷ length description ∷ 1 ∷ []) ++ (owner ++ (description ++ padding (length description)))

-- the bytes of a file with this memory and this description
abbrev pub file_bytes : List ℕ → List ℕ → List ℕ
file_bytes memory description =
    elf_header ++ (load_header (length memory) ++ (note_header (length memory) (length (note_bytes description)) ++ (memory ++ note_bytes description)))

-- The description of an image: the numbers of tasks, of functions, of counters and of marks, then the names of tasks, of functions and of
-- counters and the marks, each as in an image file.
abbrev pub description_bytes : Image → List ℕ
description_bytes image =
    flat_map four_bytes (length image.tasks ∷ length image.funcs ∷ length image.counters ∷ length image.marks ∷ [])
    ++ (flat_map name_bytes image.tasks ++ (flat_map name_bytes image.funcs ++ (flat_map name_bytes image.counters ++ flat_map mark_bytes image.marks)))

-- the bytes are those of an image in the range of the image file's format
pub record ElfText (bytes : List ℕ) (image : Image) : Type 0 where
  pub in_format : InFormat image
  pub written : bytes ≡ file_bytes image.memory (description_bytes image)
