use Rattle.std.proofs.Common.{◌≡◌, ◌++◌, drop}
use Rattle.std.specs.List.{flat_map}
use Rattle.symbol_image.specs.Frames.{frame_section, row_entry}
use Rattle.symbol_image.proofs.frames.frame_section.Given as goal

abbrev pub invariant-loop-row : goal.invariant-loop-row
invariant-loop-row l =
    l.section.items ++ flat_map (row_entry l.app l.places l.code_end l.memory) (drop l.row-index l.rows)
    ≡ frame_section l.app l.places l.code_end l.memory l.rows
