-- Lists that stand at the labels of a text.
use Rattle.std.specs.Prelude.{◌≡◌, Bool, false, List, [], ◌∷◌}
use Rattle.asm_lines.specs.declared.source_line.SourceLine.{SourceLine}
use Rattle.asm_lines.specs.Faults.{is_a1, after_line}

-- the lines stand where they may: inside a body what belongs there, and outside what belongs there
abbrev pub AreInPlace : Bool → List SourceLine → Type 0
AreInPlace inside [] = Unit {0}
AreInPlace inside (line ∷ lines) = (is_a1 inside line ≡ false) × AreInPlace (after_line inside line) lines
