-- The faults of the lines of task source.
use Rattle.std.specs.Prelude.{ℕ, ◌+◌, Bool, true, false, ◌||◌, ◌&&◌, not, ◌⊎◌, List, ◌∷◌, length, map, int_lt, pos}
use Rattle.std.specs.List.{list_any, fold}
use Rattle.sloth_base.specs.declared.refusal.Part.TheVariants.{Src}
use Rattle.sloth_base.specs.declared.refusal.Code.{Code}
use Rattle.sloth_base.specs.declared.refusal.Code.TheVariants as code
use Rattle.sloth_base.specs.declared.refusal.Refusal.{Refusal}
use Rattle.sloth_base.specs.Search.{Somewhere}
use Rattle.sloth_base.specs.Cases.{CaseOf}
use Rattle.asm_lines.specs.declared.operands.Operand.{Operand}
use Rattle.asm_lines.specs.declared.operands.Operand.TheVariants as o
use Rattle.asm_lines.specs.declared.source_line.SourceLine.{SourceLine}
use Rattle.asm_lines.specs.declared.source_line.SourceLine.TheVariants.{Empty, Shapeless, Unknown, Statement}
use Rattle.asm_lines.specs.Forms.{is_operand_count, is_outer, is_body_start, is_body_end}
use Rattle.text_pieces.specs.Lines.{lines}
use Rattle.asm_lines.specs.SourceLines.{source_line}

-- The test says that there is a fault of this code on this line, and it is r.
abbrev pub SourceCase : Bool → ℕ → Code → Refusal → Type 0
SourceCase test line code r = CaseOf Src test line code r

-- an operand without the form that it is to have
abbrev pub is_wrong : Operand → Bool
is_wrong o.Wrong = true
is_wrong _ = false

-- an operand whose number is out of range
abbrev pub is_outside : Operand → Bool
is_outside o.Outside = true
is_outside _ = false

-- two tests that say the same
abbrev pub same_bool : Bool → Bool → Bool
same_bool true b = b
same_bool false b = not b

-- A1: a line without the shape of a statement; outside a body, a statement other than `data`, `task` and `func`; inside, one of these
abbrev pub is_a1 : Bool → SourceLine → Bool
is_a1 inside Empty = false
is_a1 inside Shapeless = true
is_a1 inside Unknown = not inside
is_a1 inside (Statement m os) = same_bool (is_outer m) inside

-- A2: inside a body, a first word that is no statement
abbrev pub is_a2 : Bool → SourceLine → Bool
is_a2 inside Unknown = inside
is_a2 inside _ = false

-- A3: wrong number or form of operands
abbrev pub is_a3 : SourceLine → Bool
is_a3 (Statement m os) = not (is_operand_count m (length os)) || list_any is_wrong os
is_a3 _ = false

-- the operands of a `data` with more bytes than its number says
abbrev pub is_long : List Operand → Bool
is_long (name ∷ o.Number size ∷ o.Bytes bytes ∷ os) = int_lt size (pos (length bytes))
is_long _ = false

-- A4: a number outside its range, or more bytes than a `data` has
abbrev pub is_a4 : SourceLine → Bool
is_a4 (Statement m os) = list_any is_outside os || is_long os
is_a4 _ = false

-- What follows a line is inside a body. A statement opens or closes a body by its word alone, whatever its operands are.
abbrev pub after_line : Bool → SourceLine → Bool
after_line inside (Statement m os) = is_body_start m || (inside && not (is_body_end m))
after_line inside _ = inside

-- r is a fault of a line of this number
abbrev pub LineFault : Bool → ℕ → SourceLine → Refusal → Type 0
LineFault inside n s r = SourceCase (is_a1 inside s) n code.A1 r ⊎ (SourceCase (is_a2 inside s) n code.A2 r ⊎ (SourceCase (is_a3 s) n code.A3 r ⊎ SourceCase (is_a4 s) n code.A4 r))

-- what follows these lines is inside a body
abbrev pub is_end_inside : List SourceLine → Bool
is_end_inside ls = fold after_line false ls

-- r is a fault of a line with these lines before it
abbrev pub FaultAt : List SourceLine → SourceLine → Refusal → Type 0
FaultAt front s r = LineFault (is_end_inside front) (length front + 1) s r

-- r is a fault of these lines; the source may not end inside a body
abbrev pub SourceFault : List SourceLine → Refusal → Type 0
SourceFault ls r = Somewhere FaultAt ls r ⊎ SourceCase (is_end_inside ls) (length ls) code.A1 r

-- what the lines of a text are
abbrev pub source_lines : List ℕ → List SourceLine
source_lines text = map source_line (lines text)

-- A fault of a text. Its last line ends with no LF, so the number of its lines is 1 plus that of its LF bytes.
abbrev pub SourceLinesFault : List ℕ → Refusal → Type 0
SourceLinesFault text r = SourceFault (source_lines text) r
