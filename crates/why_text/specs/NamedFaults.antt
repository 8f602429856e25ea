-- Faults that are told under names.
use Rattle.std.specs.Prelude.{ℕ, ◌≡◌, ◌<◌, ◌==◌, ◌&&◌, ◌++◌, not, Bool, true, false, cond, All, List, [], ◌∷◌, length, take, get_or, fold}
use Rattle.std.specs.Borrow.{Bor}
use Rattle.std.specs.List.{list_any}
use Rattle.std.specs.Str.{bytes_eq}
use Rattle.stage_faults.specs.declared.notes.Note.{Note}
use Rattle.stage_faults.specs.Told.{TellSame, note_order}

-- a fault stands where another does, and follows from none
abbrev pub is_same_place : Note → Note → Bool
is_same_place fault note = (note_order note == note_order fault) && not note.follows

abbrev pub StandsAt : Note → Note → Type 0
StandsAt fault note = is_same_place fault note ≡ true

-- The new ones are the old ones, and behind them at least one that stands where the fault does, and no other.
pub record AddsGroup (fault : Note) (old new : List Note) : Type 0 where
  pub more : List Note
  pub are : new ≡ old ++ more
  pub some : 0 < length more
  pub stand : All (StandsAt fault) more

-- so far, and whether there is one
pub record AddsSome (fault : Note) (found : Bool) (old new : List Note) : Type 0 where
  pub more : List Note
  pub are : new ≡ old ++ more
  pub some : found ≡ true → 0 < length more
  pub stand : All (StandsAt fault) more

-- They tell the same faults, and none follows from another.
pub record NamesAll (faults list : List Note) : Type 0 where
  pub same : TellSame faults list
  pub own : All (λ (note : Note). note.follows ≡ false) list

-- ---- each once

-- a fault stands at this place under this name
abbrev pub is_line : ℕ → List ℕ → Note → Bool
is_line place name note = (note_order note == place) && bytes_eq note.name.now name

-- two faults with one line
abbrev pub are_alike : Note → Note → Bool
are_alike note other = is_line (note_order note) note.name.now other

-- one more, unless one of them is like it
abbrev pub apart_with : List Note → Note → List Note
apart_with list note = cond (list_any (are_alike note) list) list (list ++ note ∷ [])

-- the first of those that are alike
abbrev pub first_of_each : List Note → List Note
first_of_each notes = fold apart_with [] notes

-- None of these faults is like one before it.
abbrev pub StandApart : List Note → Type 0
StandApart notes = (k : ℕ) (d : Note) → k < length notes → list_any (are_alike (get_or notes k d)) (take k notes) ≡ false

-- a key is this place and this name
abbrev pub is_key : ℕ → List ℕ → ℕ × Bor (List ℕ) → Bool
is_key place name key = (key.0 == place) && bytes_eq key.1.now name

-- the keys are the places and names of these faults
abbrev pub AreKeys : List (ℕ × Bor (List ℕ)) → List Note → Type 0
AreKeys keys notes = (place : ℕ) (name : List ℕ) → list_any (is_key place name) keys ≡ list_any (is_line place name) notes
