-- In which lines a source declares its symbols.
use Rattle.std.specs.Prelude.{ℕ, ◌+◌, cond, List, [], ◌∷◌}
use Rattle.asm_lines.specs.declared.source_line.SourceLine.{SourceLine}
use Rattle.asm_scopes.specs.Statements.{is_data}

-- the numbers of the lines that declare symbols, where the first has this one
abbrev pub data_lines : (number : ℕ) → List SourceLine → List ℕ
data_lines number [] = []
data_lines number (line ∷ lines) = cond (is_data line) (number ∷ data_lines (number + 1) lines) (data_lines (number + 1) lines)
