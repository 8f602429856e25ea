-- Lists of faults that are all faults of a set.
use Rattle.std.specs.Prelude.{ℕ, ◌≡◌, ◌≤◌, ◌+◌, ◌*◌, ◌||◌, ◌++◌, nat_lt, false, cond, List, [], ◌∷◌}
use Rattle.std.specs.List.{Contains}
use Rattle.sloth_base.specs.declared.refusal.Part.{Part}
use Rattle.sloth_base.specs.declared.refusal.Code.{Code}
use Rattle.sloth_base.specs.declared.refusal.Refusal.{Refusal}
use Rattle.sloth_base.specs.Order.{number}
use Rattle.sloth_base.specs.Cases.{fault_at}
use Rattle.stage_faults.specs.declared.notes.Note.{Note}

-- One of these faults has this line and code, and follows from no other.
pub record IsTold (notes : List Note) (line : ℕ) (code : Code) : Type 0 where
  pub note : Note
  pub stands : Contains notes note
  pub own : note.follows ≡ false
  pub line_is : note.line ≡ line
  pub code_is : note.code ≡ code

-- Of a text's faults these are all of the set F, and no other.
pub record AreAll (part : Part) (F : Refusal → Type 0) (notes : List Note) : Type 0 where
  pub each : (r : Refusal) → F r → IsTold notes r.line r.code
  pub only : (line : ℕ) (code : Code) → IsTold notes line code → F (fault_at part line code)

-- The new ones are the old ones, and behind them all of the set F.
pub record Adds (part : Part) (F : Refusal → Type 0) (old new : List Note) : Type 0 where
  pub more : List Note
  pub are : new ≡ old ++ more
  pub all : AreAll part F more

-- ---- lists as they are told

-- They tell the same faults.
pub record TellSame (notes other : List Note) : Type 0 where
  pub to : (line : ℕ) (code : Code) → IsTold notes line code → IsTold other line code
  pub from : (line : ℕ) (code : Code) → IsTold other line code → IsTold notes line code

-- the place of a fault among all: by its line, and on one line by its code
abbrev pub note_order : Note → ℕ
note_order note = note.line * 64 + number note.code

-- From this place on each of these faults stands behind the one before it, and follows from no other.
abbrev pub Rise : ℕ → List Note → Type 0
Rise place [] = Unit {0}
Rise place (note ∷ notes) = (place ≤ note_order note) × (note.follows ≡ false) × Rise (note_order note + 1) notes

-- They stand in order, by line and on one line by code, and there is one for each line and code at most.
abbrev pub AreInOrder : List Note → Type 0
AreInOrder notes = Rise 0 notes

-- of faults in order those at this place or behind it, the first of each place, that follow from no other
abbrev pub told_from : ℕ → List Note → List Note
told_from place [] = []
told_from place (note ∷ notes) = cond (note.follows || nat_lt (note_order note) place) (told_from place notes) (note ∷ told_from (note_order note + 1) notes)
