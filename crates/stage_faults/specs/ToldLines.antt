-- The faults of lines that are told: of those that come from the place of a statement alone, the first.
use Rattle.std.specs.Prelude.{ℕ, ◌+◌, Bool, true, false, ◌||◌, ◌&&◌, not, ◌⊎◌, List, [], ◌∷◌, length}
use Rattle.sloth_base.specs.declared.refusal.Code.TheVariants as code
use Rattle.sloth_base.specs.declared.refusal.Refusal.{Refusal}
use Rattle.sloth_base.specs.Search.{Somewhere}
use Rattle.asm_lines.specs.declared.source_line.SourceLine.{SourceLine}
use Rattle.asm_lines.specs.declared.source_line.SourceLine.TheVariants.{Statement}
use Rattle.asm_lines.specs.Forms.{is_operand_count}
use Rattle.asm_lines.specs.Grammar.{is_shapeless}
use Rattle.asm_lines.specs.Faults.{SourceCase, is_a1, is_a2, is_a3, is_a4, after_line, is_end_inside}

-- A1 by its place alone: a statement, or an unknown word, on the wrong side
abbrev pub is_misplaced : Bool → SourceLine → Bool
is_misplaced inside s = not (is_shapeless s) && is_a1 inside s

-- one of these lines is A1 by its place alone
abbrev pub any_misplaced : Bool → List SourceLine → Bool
any_misplaced inside [] = false
any_misplaced inside (s ∷ ls) = is_misplaced inside s || any_misplaced (after_line inside s) ls

-- A1, unless it comes from the place alone and an earlier one did
abbrev pub is_told_a1 : Bool → Bool → SourceLine → Bool
is_told_a1 inside earlier s = is_a1 inside s && not (earlier && is_misplaced inside s)

-- the number of operands is right
abbrev pub is_counted : SourceLine → Bool
is_counted (Statement m os) = is_operand_count m (length os)
is_counted _ = false

-- A4 of the operands of a line that has as many as it may have: of others no form is known
abbrev pub is_told_a4 : SourceLine → Bool
is_told_a4 s = is_counted s && is_a4 s

-- r is a fault that is told of line n
abbrev pub ToldLine : Bool → Bool → ℕ → SourceLine → Refusal → Type 0
ToldLine inside earlier n s r = SourceCase (is_told_a1 inside earlier s) n code.A1 r ⊎ (SourceCase (is_a2 inside s) n code.A2 r ⊎ (SourceCase (is_a3 s) n code.A3 r ⊎ SourceCase (is_told_a4 s) n code.A4 r))

-- the same of a line with these lines before it
abbrev pub ToldAt : List SourceLine → SourceLine → Refusal → Type 0
ToldAt front s r = ToldLine (is_end_inside front) (any_misplaced false front) (length front + 1) s r

-- the source ends inside a body, and no line is A1 by its place alone
abbrev pub is_told_end : List SourceLine → Bool
is_told_end ls = is_end_inside ls && not (any_misplaced false ls)

-- r is a fault that is told of these lines
abbrev pub ToldFault : List SourceLine → Refusal → Type 0
ToldFault ls r = Somewhere ToldAt ls r ⊎ SourceCase (is_told_end ls) (length ls) code.A1 r
