-- What the file of texts says of its source.
use Rattle.std.specs.Prelude.{ℕ, ◌≡◌, ◌≤◌, ◌<◌, ◌^◌, List, length}
use Rattle.sloth_base.specs.Limits.{file_limit}
use Rattle.sloth_base.specs.declared.app.App.{App}
use Rattle.sloth_region.specs.declared.region.Map.{Map}
use Rattle.asm_lines.specs.Faults.{source_lines}
use Rattle.mem_map.specs.Zones.{data_zone}
use Rattle.symbol_image.specs.EntryTree.{HasCodeEntries}
use Rattle.symbol_image.specs.LineMachine.{HasMatrix, wanted_matrix}
use Rattle.symbol_image.specs.LineSection.{line_program, line_section}
use Rattle.map_text.specs.DataLines.{data_lines}
use Rattle.map_text.specs.declared.line_places.Origins.{Origins}
use Rattle.symbol_image.specs.Layout.{Section}
use Rattle.symbol_image.specs.SymbolFile.{kinds_section}
use Rattle.symbol_build.specs.SymbolFiles.{IsSymbolFile, source_origins}
use Rattle.symbol_build.specs.SourceRows.{rows_by}
use Rattle.symbol_build.specs.StandingSections.{HasSection}

-- a section of the file is that of the source lines, and their program makes exactly the rows of the items by the map, each from the file and the line that the comments state
pub record HasLines (file name : List ℕ) (origins : Origins) (app : App) (m : Map) : Type 0 where
  pub number : ℕ
  pub section : Section
  pub stands : HasSection file number section
  pub is : section.contents ≡ line_section name origins.files (rows_by origins.places app m) (data_zone m).base
  pub makes : HasMatrix (line_program (rows_by origins.places app m) (data_zone m).base) (wanted_matrix (rows_by origins.places app m) (data_zone m).base)

-- one is that of the kinds of entries; another reads by it, and has each symbol, which is declared in its line, and each body
pub record HasEntries (file lines : List ℕ) (app : App) (m : Map) : Type 0 where
  pub kinds_number : ℕ
  pub kinds_stand : HasSection file kinds_number kinds_section
  pub number : ℕ
  pub section : Section
  pub stands : HasSection file number section
  pub entries : HasCodeEntries section.contents app m.places (data_zone m).base lines

-- so says each file of texts, by the map of its image
abbrev pub FilesSaySource : Type 0
FilesSaySource = (oil src name file : List ℕ) (h : IsSymbolFile oil src name file) → length src ≤ file_limit → length file < 2 ^ 32
    → HasLines file name (source_origins src) h.app h.of_image.is_built.planned.by_map.map
    × HasEntries file (data_lines 1 (source_lines src)) h.app h.of_image.is_built.planned.by_map.map
