-- The ELF header and the program headers of a file for debuggers (System V ABI, "ELF Header" and "Program Header").
use Rattle.std.specs.Prelude.{ℕ, ◌+◌, ◌-◌, List, [], ◌∷◌, ◌++◌, max}
use Rattle.std.specs.List.{flat_map}
use Rattle.elf_image.specs.ElfText.{elf_class, elf_magic}
use Rattle.image_file.specs.Fields.{four_bytes, two_bytes}
use Rattle.sloth_base.specs.MemoryMap.{boot_base, memory_base, vectors_base}
use Rattle.symbol_image.specs.Layout.{front}
use Rattle.map_text.specs.declared.piece_starts.Borders.{Borders}

-- an executable (2) of 32 bits, low byte first, for RISC-V (243)
abbrev pub elf_kind : List ℕ
elf_kind = elf_magic ++ (elf_class ++ flat_map two_bytes (2 ∷ 243 ∷ []))

-- of version 1, which begins with boot; program headers at 52, section headers at a place, no flags
abbrev pub elf_places : (sections_at : ℕ) → List ℕ
elf_places sections_at = flat_map four_bytes (1 ∷ boot_base ∷ 52 ∷ sections_at ∷ 0 ∷ [])

-- the ELF header; at its end the sizes of this header and of a program header, three of them; the size of a section header, twelve of them, and the number of
-- that of their names
abbrev pub elf_header : (sections_at : ℕ) → List ℕ
elf_header sections_at = elf_kind ++ (elf_places sections_at ++ flat_map two_bytes (52 ∷ 32 ∷ 3 ∷ 40 ∷ 12 ∷ 11 ∷ []))

-- where the byte of an address of the image's memory stands in the file
abbrev pub place_of : (address : ℕ) → ℕ
place_of address = front + (address - memory_base)

-- a segment that is loaded (1): the bytes of the file from an address to another stand there, and so many bytes of memory are the segment's; aligned
-- to 4
pub record Segment : Type 0 where
  pub from : ℕ
  pub to : ℕ
  pub end : ℕ
  pub flags : ℕ

-- its header, in 32 bytes
abbrev pub segment_header : Segment → List ℕ
segment_header s =
    flat_map four_bytes (1 ∷ place_of s.from ∷ s.from ∷ s.from ∷ (s.to - s.from) ∷ (s.end - s.from) ∷ s.flags ∷ 4 ∷ [])

-- the words, which are read and written (6); the code, which is read and executed (5); the data with the stacks behind them
abbrev pub segments : Borders → List Segment
segments b =
    record { from = memory_base; to = vectors_base; end = vectors_base; flags = 6 }
    ∷ record { from = vectors_base; to = b.code_end; end = b.code_end; flags = 5 }
    ∷ record { from = b.code_end; to = b.end; end = max b.end b.top; flags = 6 } ∷ []

-- their headers
abbrev pub segment_headers : Borders → List ℕ
segment_headers b = flat_map segment_header (segments b)
