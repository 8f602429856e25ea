-- Blocks and bytes that lie each in an extent of its own have room.
use Rattle.std.specs.Prelude.{ℕ, ◌+◌, ◌≤◌, List, length, map, All}
use Rattle.std.specs.List.{AllZip}
use Rattle.sloth_region.specs.declared.region.Extent.{Extent}
use Rattle.sloth_region.specs.Region.{FollowWithin}
use Rattle.rv32_instr.specs.declared.block.Block.{Block}
use Rattle.sloth_link.specs.declared.linking.Datum.{Datum}
use Rattle.mem_map.specs.Sections.{Section, block_section}
use Rattle.sloth_link.specs.Linked.{datum_section, HaveRoom}
use Rattle.sloth_base.specs.MemoryMap.{memory_base}

-- a section lies in an extent
abbrev pub IsIn : Extent → Section → Type 0
IsIn extent section =
    (extent.base ≤ memory_base + section.offset) × (memory_base + section.offset + length section.bytes ≤ extent.base + extent.len)

-- each section in the extent that is its room
abbrev pub AreIn : List Extent → List Section → Type 0
AreIn = AllZip IsIn

-- the extents follow one another, and each section lies in its own
pub record AreHoused (from mid end : ℕ) (rooms data_rooms : List Extent) (blocks : List Block) (symbols : List Datum) : Type 0 where
  pub blocks_above : All (λ b. memory_base ≤ b.at) blocks
  pub symbols_above : All (λ d. memory_base ≤ d.at) symbols
  pub follow : FollowWithin from mid rooms
  pub data_follow : FollowWithin mid end data_rooms
  pub housed : AreIn rooms (map block_section blocks)
  pub data_housed : AreIn data_rooms (map datum_section symbols)

-- blocks and symbols in such extents have room in a memory that reaches to their end
abbrev pub RoomFollows : Type 0
RoomFollows = (size from mid end : ℕ) (rooms data_rooms : List Extent) (blocks : List Block) (symbols : List Datum) → end ≤ memory_base + size
    → AreHoused from mid end rooms data_rooms blocks symbols → HaveRoom size blocks symbols
