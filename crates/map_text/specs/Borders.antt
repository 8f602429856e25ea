-- Where the zones of an image begin and end.
use Rattle.std.specs.Prelude.{ℕ, ◌+◌, ◌%◌, ◌≤◌, ◌≡◌, List, [], ◌∷◌, All, length}
use Rattle.sloth_base.specs.MemoryMap.{memory_base, memory_bytes, memory_end, vectors_base}
use Rattle.sloth_region.specs.declared.region.Extent.{Extent}
use Rattle.sloth_region.specs.declared.region.Map.{Map}
use Rattle.mem_map.specs.Stacks.{address_behind_data}
use Rattle.mem_map.specs.Zones.{all_stacks, data_zone}
use Rattle.map_text.specs.declared.piece_starts.Borders.{Borders}

-- the address of the first stack, or another where there is none
abbrev pub stacks_base : List Extent → ℕ → ℕ
stacks_base [] end = end
stacks_base (stack ∷ stacks) end = stack.base

-- the address behind the last stack, or another where there is none
abbrev pub stacks_end : List Extent → ℕ → ℕ
stacks_end [] end = end
stacks_end (stack ∷ stacks) end = stacks_end stacks (stack.base + stack.len)

-- of an image with so many bytes of memory: its data begin behind the code, and its memory ends with them
abbrev pub image_borders : Map → (memory : ℕ) → Borders
image_borders map memory = record {
  code_end = (data_zone map).base;
  end = memory_base + memory;
  stacks = stacks_base (all_stacks map) (memory_base + memory);
  top = stacks_end (all_stacks map) (memory_base + memory);
}

-- the image's memory ends with the zone of data, which begins behind the words at a multiple of 4; the stacks end in RAM
pub record HasBorders (map : Map) (memory : ℕ) : Type 0 where
  pub zones : 3 ≤ length map.extents
  pub behind_words : vectors_base ≤ (data_zone map).base
  pub even : (data_zone map).base % 4 ≡ 0
  pub ends : memory_base + memory ≡ address_behind_data map
  pub fits : memory ≤ memory_bytes
  pub stacks : All (λ e. e.base + e.len ≤ memory_end) (all_stacks map)
