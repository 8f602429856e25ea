-- Blocks of code as bytes that are written into a memory, and their marks.
use Rattle.std.specs.Prelude.{ℕ, ◌+◌, ◌-◌, ◌≤◌, ◌≢◌, List, [], ◌∷◌, ◌++◌, length, map, AllPairs, slice_set}
use Rattle.std.specs.List.{flat_map}
use Rattle.std.specs.Int.{to_le_bytes, w32}
use Rattle.sloth_base.specs.declared.image.Mark.{Mark}
use Rattle.sloth_base.specs.MemoryMap.{memory_base}
use Rattle.rv32_instr.specs.declared.InstrKind.{InstrKind}
use Rattle.rv32_instr.specs.declared.block.Block.{Block}
use Rattle.rv32_instr.specs.Encode.{Encode}

-- bytes, and the offset of the first
pub record Section : Type 0 where
  pub offset : ℕ
  pub bytes : List ℕ

-- the words of these instructions, low byte first
abbrev pub code_bytes : List InstrKind → List ℕ
code_bytes [] = []
code_bytes (kind ∷ code) = to_le_bytes w32 (Encode kind) ++ code_bytes code

-- a block's instructions as bytes
abbrev pub block_section : Block → Section
block_section block = record { offset = block.at - memory_base; bytes = code_bytes block.code }

-- an end of the section is not behind the end of the memory
abbrev pub IsSectionInside : ℕ → Section → Type 0
IsSectionInside size section = section.offset + length section.bytes ≤ size

-- a memory in which these bytes are written from an offset on
abbrev pub with_bytes : List ℕ → ℕ → List ℕ → List ℕ
with_bytes memory offset [] = memory
with_bytes memory offset (byte ∷ bytes) = with_bytes (slice_set memory offset byte) (offset + 1) bytes

-- a memory in which these sections are written, one after the other
abbrev pub linked_memory : List ℕ → List Section → List ℕ
linked_memory memory [] = memory
linked_memory memory (section ∷ sections) = linked_memory (with_bytes memory section.offset section.bytes) sections

-- ---- marks

-- the marks of all blocks
abbrev pub marks_of : List Block → List Mark
marks_of blocks = flat_map (λ block. block.marks) blocks

-- the address of each mark
abbrev pub addresses : List Mark → List ℕ
addresses marks = map (λ mark. mark.address) marks

-- no two marks have one address
abbrev pub HaveOwnAddresses : List Mark → Type 0
HaveOwnAddresses marks = AllPairs (λ a b. a ≢ b) (addresses marks)
