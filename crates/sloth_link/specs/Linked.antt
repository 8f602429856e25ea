-- What stands in a memory: sections of bytes, each at its offset from the base of memory, and zeros.
use Rattle.std.specs.Prelude.{ℕ, ◌+◌, ◌-◌, ◌<◌, ◌≤◌, ◌≡◌, ◌⊎◌, List, ◌++◌, length, map, All, AllPairs, slice_index}
use Rattle.sloth_base.specs.MemoryMap.{memory_base}
use Rattle.rv32_instr.specs.declared.block.Block.{Block}
use Rattle.masked_code.specs.Place.{AreWritten}
use Rattle.mem_map.specs.Sections.{Section, block_section, IsSectionInside}
use Rattle.sloth_link.specs.declared.linking.Datum.{Datum}

-- the bytes of a symbol, or of the words of an alarm
abbrev pub datum_section : Datum → Section
datum_section datum = record { offset = datum.at - memory_base; bytes = datum.bytes }

-- the blocks, and behind them the data: the words of the alarms, and then the bytes of the symbols
abbrev pub sections_of : List Block → List Datum → List Section
sections_of blocks symbols = map block_section blocks ++ map datum_section symbols

-- no byte is of both
abbrev pub AreSectionsApart : Section → Section → Type 0
AreSectionsApart a b = (a.offset + length a.bytes ≤ b.offset) ⊎ (b.offset + length b.bytes ≤ a.offset)

-- the section's bytes stand in this memory
abbrev pub HasSectionBytes : List ℕ → Section → Type 0
HasSectionBytes memory section = (k : ℕ) → k < length section.bytes → slice_index memory (section.offset + k) ≡ slice_index section.bytes k

-- this byte is not one of the section
abbrev pub IsOutsideSection : ℕ → Section → Type 0
IsOutsideSection i section = (i < section.offset) ⊎ (section.offset + length section.bytes ≤ i)

-- a memory with these sections in it, and zeros elsewhere
pub record AreLinked (size : ℕ) (sections : List Section) (memory : List ℕ) : Type 0 where
  pub size_is : length memory ≡ size
  pub hold : All (HasSectionBytes memory) sections
  pub zeros : (i : ℕ) → All (IsOutsideSection i) sections → slice_index memory i ≡ 0

-- the block's instructions stand at its address
abbrev pub BlockStands : List ℕ → Block → Type 0
BlockStands memory block = AreWritten memory (block.at - memory_base) block.code

-- the blocks and these data lie in a memory of so many bytes, apart from one another
pub record HaveRoom (size : ℕ) (blocks : List Block) (symbols : List Datum) : Type 0 where
  pub blocks_above : All (λ b. memory_base ≤ b.at) blocks
  pub symbols_above : All (λ d. memory_base ≤ d.at) symbols
  pub inside : All (IsSectionInside size) (sections_of blocks symbols)
  pub apart : AllPairs AreSectionsApart (sections_of blocks symbols)
