-- Blocks in extents that follow one another: each in its own, with its mark.
use Rattle.std.specs.Prelude.{ℕ, ◌+◌, ◌*◌, ◌%◌, ◌<◌, ◌≤◌, ◌≡◌, List, [], ◌∷◌, length, All}
use Rattle.std.specs.Prelude as prelude
use Rattle.std.specs.List.{AllZip}
use Rattle.sloth_base.specs.declared.image.Mark.{Mark}
use Rattle.sloth_base.specs.MemoryMap.{memory_base}
use Rattle.sloth_region.specs.declared.region.Extent.{Extent}
use Rattle.sloth_region.specs.declared.region.Map.{Map}
use Rattle.sloth_region.specs.Region.{FollowWithin}
use Rattle.rv32_instr.specs.declared.block.Block.{Block}
use Rattle.mem_map.specs.Run.{AreClose}
use Rattle.mem_map.specs.Zones.{code_zone}
use Rattle.mem_map.specs.Sections.{HaveOwnAddresses, block_section, marks_of}
use Rattle.sloth_link.specs.Room.{AreIn}
use Rattle.sim_laws.specs.Zones.{IsInCode}

-- a block's marks are on words of its code
abbrev pub HasOwnMarks : Block → Type 0
HasOwnMarks block = All (λ mark. (block.at ≤ mark.address) × (mark.address < block.at + 4 * length block.code)) block.marks

-- each mark stands behind the one before it
abbrev pub MarksRise : List Mark → Type 0
MarksRise [] = Unit {0}
MarksRise (mark ∷ []) = Unit {0}
MarksRise (mark ∷ next ∷ marks) = (mark.address < next.address) × MarksRise (next ∷ marks)

-- a block fills its extent, and has at most two marks
pub record FitsRoom (room : Extent) (block : Block) : Type 0 where
  pub at : block.at ≡ room.base
  pub above : memory_base ≤ room.base
  pub aligned : room.base % 4 ≡ 0
  pub long : 4 * length block.code ≡ room.len
  pub few : length block.marks ≤ 2
  pub rising : MarksRise block.marks
  pub marks : HasOwnMarks block

-- each block in its own extent
abbrev pub FitRooms : List Extent → List Block → Type 0
FitRooms = AllZip FitsRoom

-- each block begins where the one before it ends: there is no hole between them
abbrev pub FollowClosely : ℕ → ℕ → List Block → Type 0
FollowClosely from end [] = from ≡ end
FollowClosely from end (block ∷ rest) = (block.at ≡ from) × FollowClosely (block.at + 4 * length block.code) end rest

-- they do so where their extents do
abbrev pub BlocksFollowClosely : Type 0
BlocksFollowClosely = (from end : ℕ) (rooms : List Extent) (blocks : List Block) → AreClose from end rooms → FitRooms rooms blocks
    → FollowClosely from end blocks

-- its code lies there as a section
abbrev pub BlocksAreIn : Type 0
BlocksAreIn = (rooms : List Extent) (blocks : List Block) → FitRooms rooms blocks → AreIn rooms (prelude.map block_section blocks)

-- where the extents lie in the zone of code, the blocks do
abbrev pub BlocksAreInCode : Type 0
BlocksAreInCode = (map : Map) (rooms : List Extent) (blocks : List Block)
    → FollowWithin (code_zone map).base ((code_zone map).base + (code_zone map).len) rooms → FitRooms rooms blocks → All (IsInCode map) blocks

-- no two marks have one address
abbrev pub MarksDiffer : Type 0
MarksDiffer = (from end : ℕ) (rooms : List Extent) (blocks : List Block) → FollowWithin from end rooms → FitRooms rooms blocks
    → HaveOwnAddresses (marks_of blocks)
