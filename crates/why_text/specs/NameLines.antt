-- The lines behind a refusal of names and forms.
use Rattle.std.specs.Prelude.{ℕ, ◌≡◌, ◌++◌, ◌⊎◌, ◌&&◌, ◌<◌, nat_lt, nat_le, IsTrue, IfSome, All, Bool, true, false, List, [], ◌∷◌, length, take, Option, Some, None, codes, if◌then◌else◌}
use Rattle.std.specs.List.{list_all}
use Rattle.std.specs.List.Sorted.{IsNonDecreasingBy}
use Rattle.sloth_base.specs.declared.refusal.Part.{Part}
use Rattle.sloth_base.specs.declared.refusal.Refusal.{Refusal}
use Rattle.command_line.specs.LastLine.{code_text}
use Rattle.stage_faults.specs.declared.notes.Note.{Note}
use Rattle.stage_faults.specs.Told.{AreAll, AreInOrder, TellSame, note_order}
use Rattle.why_text.specs.NamedFaults.{StandApart}
use Rattle.why_text.specs.RuleLines.{spaced_number, name_line, number_line}

-- the line of an earlier thing, if there is one
abbrev pub first_lines : Option ℕ → List ℕ
first_lines None = []
first_lines (Some line) = number_line (codes "first") line

-- a name, and the line of an earlier thing
abbrev pub named_lines : List ℕ → Option ℕ → List ℕ
named_lines name first = name_line name ++ first_lines first

-- a word: it has bytes, no blank and no end of a line among them, and is no longer than a text may be
abbrev pub is_word : List ℕ → Bool
is_word name = nat_lt 0 (length name) && (nat_le (length name) 4194304 && list_all (nat_lt 32) name)

-- the name that a fault concerns, if there is one
abbrev pub concerned_words : List ℕ → List ℕ
concerned_words name = if is_word name then codes " " ++ name else []

-- `among`, the line and the code of a fault, and the name that it concerns
abbrev pub among_line : Note → List ℕ
among_line note = (((codes "among" ++ spaced_number note.line) ++ (codes " " ++ code_text note.code)) ++ concerned_words note.name.now) ++ codes "\n"

-- such a line for each of these faults
abbrev pub among_lines : List Note → List ℕ
among_lines [] = []
among_lines (note ∷ notes) = among_line note ++ among_lines notes

-- the last line, where there are more faults
abbrev pub more_lines : Bool → List ℕ
more_lines true = codes "among more\n"
more_lines false = []

-- such a line for each of the first 1,000, and the last line where there are more
abbrev pub told_lines : List Note → List ℕ
told_lines notes = among_lines (take 1000 notes) ++ more_lines (nat_lt 1000 (length notes))

-- a name with the line of an earlier thing, or nothing
pub record HasName (lines : List ℕ) : Type 0 where
  pub name : List ℕ
  pub word : IsTrue (is_word name)
  pub first : Option ℕ
  pub number : IfSome first (λ line. line < 4294967296)
  pub are : lines ≡ named_lines name first

abbrev pub IsNamed : List ℕ → Type 0
IsNamed lines = (lines ≡ []) ⊎ HasName lines

-- ---- each fault of a set

-- a name, and behind it the lines of faults in order, which tell the same as these
pub record TellsNotes (notes : List Note) (lines : List ℕ) : Type 0 where
  pub named : List ℕ
  pub is_named : IsNamed named
  pub told : List Note
  pub in_order : AreInOrder told
  pub same : TellSame notes told
  pub are : lines ≡ named ++ told_lines told

-- a name, and behind it the lines of all faults of the set F, in order and once, and of no other: the first 1,000, and where there are more the last line
pub record AreFaultLines (part : Part) (F : Refusal → Type 0) (lines : List ℕ) : Type 0 where
  pub named : List ℕ
  pub is_named : IsNamed named
  pub notes : List Note
  pub in_order : AreInOrder notes
  pub all : AreAll part F notes
  pub are : lines ≡ named ++ told_lines notes

-- a name, and behind it the lines of faults by line and code, each line once, which tell the same as these
pub record TellsNamed (faults : List Note) (lines : List ℕ) : Type 0 where
  pub named : List ℕ
  pub is_named : IsNamed named
  pub told : List Note
  pub sorted : IsNonDecreasingBy note_order told
  pub apart : StandApart told
  pub own : All (λ (note : Note). note.follows ≡ false) told
  pub same : TellSame faults told
  pub are : lines ≡ named ++ told_lines told

-- A name, and behind it the lines of all faults of the set F, by line and code, each line once, and of no other. A fault may have several, under different names.
pub record AreNamedLines (part : Part) (F : Refusal → Type 0) (lines : List ℕ) : Type 0 where
  pub named : List ℕ
  pub is_named : IsNamed named
  pub notes : List Note
  pub sorted : IsNonDecreasingBy note_order notes
  pub apart : StandApart notes
  pub own : All (λ (note : Note). note.follows ≡ false) notes
  pub all : AreAll part F notes
  pub are : lines ≡ named ++ told_lines notes
