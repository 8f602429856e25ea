-- Which line of which file each address of task code comes from.
use Rattle.std.specs.Prelude.{ℕ, ◌-◌, ◌==◌, cond, List, map, get_or}
use Rattle.map_text.specs.declared.line_rows.LineRow.{LineRow}
use Rattle.map_text.specs.LinePlaces.{no_place}
use Rattle.symbol_image.specs.declared.line_section.FileRow.{FileRow}
use Rattle.map_text.specs.declared.line_places.Place.{Place}

-- the row of an address that comes from this file's line
abbrev pub row_from : (address file line : ℕ) → FileRow
row_from address file line = record { address = address; file = file; line = line }

-- an address comes from the place of its line, or, where that has none, from the line itself, of the source, which is file 1
abbrev pub file_row : List Place → LineRow → FileRow
file_row places row =
    let place = get_or places (row.line - 1) no_place in
    cond (place.file == 0) (row_from row.address 1 row.line) (row_from row.address place.file place.line)

-- so do all
abbrev pub file_rows : List Place → List LineRow → List FileRow
file_rows places rows = map (file_row places) rows
