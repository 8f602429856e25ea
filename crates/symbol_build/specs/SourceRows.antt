-- The source lines of a planned map.
use Rattle.std.specs.Prelude.{ℕ, ◌≤◌, List, length}
use Rattle.sloth_base.specs.Limits.{file_limit}
use Rattle.sloth_base.specs.declared.app.App.{App}
use Rattle.sloth_base.specs.declared.config.Config.{Config}
use Rattle.sloth_base.specs.declared.limits.Bounds.{Bounds}
use Rattle.sloth_region.specs.declared.region.Map.{Map}
use Rattle.sloth_source.specs.Texts.{AreAccepted}
use Rattle.mem_map.specs.Planned.{IsPlanned}
use Rattle.mem_map.specs.Zones.{data_zone}
use Rattle.symbol_image.specs.LineMachine.{HasMatrix, wanted_matrix}
use Rattle.map_text.specs.LineRows.{line_rows}
use Rattle.symbol_image.specs.LineSection.{line_program}
use Rattle.symbol_image.specs.FileRows.{file_rows}
use Rattle.symbol_image.specs.declared.line_section.FileRow.{FileRow}
use Rattle.map_text.specs.declared.line_places.Place.{Place}
use Rattle.symbol_build.specs.SymbolFiles.{source_origins}

-- the rows of task code by its map, where the lines of its source have these places
abbrev pub rows_by : List Place → App → Map → List FileRow
rows_by places app m = file_rows places (line_rows m.places (data_zone m).base 0 app.funcs)

-- where texts are accepted, the program makes exactly their rows, and one end behind all code
abbrev pub SourceLinesAreRows : Type 0
SourceLinesAreRows = (oil src : List ℕ) (config : Config) (app : App) (bounds : Bounds) (m : Map) → length src ≤ file_limit → AreAccepted oil src config app
    → IsPlanned config app bounds m → HasMatrix (line_program (rows_by (source_origins src).places app m) (data_zone m).base)
    (wanted_matrix (rows_by (source_origins src).places app m) (data_zone m).base)
