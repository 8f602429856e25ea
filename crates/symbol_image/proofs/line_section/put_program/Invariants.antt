use Rattle.std.proofs.Common.{◌≡◌, ◌++◌, drop}
use Rattle.symbol_image.specs.FileRows.{file_rows}
use Rattle.symbol_image.specs.LineSection.{further_rows, line_program}
use Rattle.symbol_image.proofs.line_section.put_program.Given as goal

abbrev pub invariant-loop-row : goal.invariant-loop-row
invariant-loop-row l =
    l.section.items ++ further_rows l.last (file_rows l.places (drop l.row-index l.rest)) l.end
    ≡ l.fn.section.items ++ line_program (file_rows l.places l.rows) l.end
