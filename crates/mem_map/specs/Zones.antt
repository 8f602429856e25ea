-- The zones of an image: service words, code, data and the stacks, one behind the other.
use Rattle.std.specs.Prelude.{ℕ, ◌%◌, ◌≤◌, ◌≡◌, List, ◌∷◌, length, drop, All, slice_index_or}
use Rattle.sloth_base.specs.declared.config.Config.{Config}
use Rattle.sloth_base.specs.MemoryMap.{memory_end, words_base}
use Rattle.sloth_base.specs.Limits.{task_limit}
use Rattle.sloth_region.specs.declared.region.Extent.{Extent}
use Rattle.sloth_region.specs.declared.region.Map.{Map}
use Rattle.sloth_region.specs.Region.{AreApartWithin}
use Rattle.mem_map.specs.StackParts.{no_extent}

-- the zone of code, which is the second extent
abbrev pub code_zone : Map → Extent
code_zone map = slice_index_or map.extents 1 no_extent

-- the zone of data, which is the third
abbrev pub data_zone : Map → Extent
data_zone map = slice_index_or map.extents 2 no_extent

-- the stack of a task
abbrev pub stack_of : Map → ℕ → Extent
stack_of map task = slice_index_or map.stacks task no_extent

-- the stacks, each once: all extents behind the zone of data
abbrev pub all_stacks : Map → List Extent
all_stacks map = drop 3 map.extents

-- The zones follow one another in RAM, behind the first word, and all that is executed begins at a multiple of 4.
pub record HasZones (map : Map) (config : Config) : Type 0 where
  pub extents : map.extents ≡ map.words ∷ code_zone map ∷ data_zone map ∷ all_stacks map
  pub words : map.words ≡ record { base = words_base; len = 1020 }
  pub apart : AreApartWithin words_base memory_end map.extents
  pub few_tasks : length config.tasks ≤ task_limit
  pub items_aligned : All (λ address. address % 4 ≡ 0) map.places.items
  pub blocks_aligned : All (λ address. address % 4 ≡ 0) map.places.blocks
  pub idle_aligned : map.idle % 4 ≡ 0
