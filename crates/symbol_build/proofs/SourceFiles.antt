-- The file of texts says where its source stands.
use Rattle.std.proofs.Common.{◌<◌, ◌^◌, List, ℕ, length, refl, subst, sym}
use Rattle.symbol_image.proofs.Showing.{info_shows}
use Rattle.symbol_image.specs.LineMachine.{HasMatrix, wanted_matrix}
use Rattle.symbol_image.specs.LineSection.{line_program}
use Rattle.mem_map.specs.Zones.{data_zone}
use Rattle.symbol_image.specs.FileParts.{FileParts}
use Rattle.symbol_image.specs.SymbolFile.{entries_section, kinds_section, lines_section, symbol_file}
use Rattle.symbol_build.specs.SymbolFiles.{parts_of, source_origins}
use Rattle.symbol_build.proofs.Rows.{source_lines_are_rows}
use Rattle.symbol_build.proofs.Standing.{sections_stand}
use Rattle.symbol_build.specs.SourceFiles.{FilesSaySource, HasEntries, HasLines}
use Rattle.symbol_build.specs.SourceRows.{rows_by}

lines : (p : FileParts) → length (symbol_file p) < 2 ^ 32
    → HasMatrix (line_program (rows_by p.origins.places p.app p.map) (data_zone p.map).base) (wanted_matrix (rows_by p.origins.places p.app p.map) (data_zone p.map).base)
    → HasLines (symbol_file p) p.source p.origins p.app p.map
lines p few makes = record {
  number = 7;
  section = lines_section p (data_zone p.map).base;
  stands = sections_stand p 6 (lines_section p (data_zone p.map).base) few refl;
  is = refl;
  makes = makes;
}

entries : (p : FileParts) → length (symbol_file p) < 2 ^ 32 → HasEntries (symbol_file p) p.origins.lines p.app p.map
entries p few = record {
  kinds_number = 5;
  kinds_stand = sections_stand p 4 kinds_section few refl;
  number = 6;
  section = entries_section p (data_zone p.map).base;
  stands = sections_stand p 5 (entries_section p (data_zone p.map).base) few refl;
  entries = info_shows p.source p.app p.map.places (data_zone p.map).base p.origins.lines;
}

pub files_say_source : FilesSaySource
files_say_source oil src name file h short few =
    let planned = h.of_image.is_built.planned in
    let m = planned.by_map.map in
    let origins = source_origins src in
    let p = parts_of name origins h.config h.app m h.image.memory in
    let small = subst (λ (f : List ℕ). length f < 2 ^ 32) h.of_image.is few in
    let rows = source_lines_are_rows oil src h.config h.app planned.bounds m short h.accepted planned.by_map.planned in (
      subst (λ (f : List ℕ). HasLines f name origins h.app m) (sym h.of_image.is) (lines p small rows),
      subst (λ (f : List ℕ). HasEntries f origins.lines h.app m) (sym h.of_image.is) (entries p small),
    )
