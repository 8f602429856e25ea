-- A writer behind a buffer: what was put is written in its order, but for what is held back.
use Rattle.std.specs.Prelude.{◌≡◌, ◌≢◌, ℕ, List, [], ◌++◌, length, take, map, flat_map, Option, Bool, true, false}
use Rattle.std.specs.Io.KnownBytes.{Appends}

-- what is due was written, but for its last bytes, which are held back
abbrev pub PassesOn : Option (List ℕ) → Option (List ℕ) → List ℕ → List ℕ → Type 0
PassesOn old new due held = (written : List ℕ) × (due ≡ written ++ held) × Appends old new written

-- some first part of what is due was written, and not all of it
abbrev pub BreaksOff : Option (List ℕ) → Option (List ℕ) → List ℕ → Type 0
BreaksOff old new due = (written rest : List ℕ) × (due ≡ written ++ rest) × (rest ≢ []) × Appends old new written

-- the bytes of a history, one after the other
abbrev pub bytes_in : List (List ℕ × List ℕ) → List ℕ
bytes_in items = flat_map (λ (item : List ℕ × List ℕ). item.1) items

-- the pieces of bytes of a history
abbrev pub pieces_in : List (List ℕ × List ℕ) → List (List ℕ)
pieces_in items = map (λ (item : List ℕ × List ℕ). item.1) items

-- these are the first bytes of a text
abbrev pub IsPrefix : List ℕ → List ℕ → Type 0
IsPrefix front text = take (length front) text ≡ front

-- unless a call has failed, what was accepted was given, but for its last bytes, which are held back
abbrev pub IsGivenBut : Bool → List ℕ → List ℕ → List ℕ → Type 0
IsGivenBut broken accepted given held = broken ≡ false → accepted ≡ given ++ held

-- once a call has failed nothing is held back
abbrev pub IsLostBehind : Bool → List ℕ → Type 0
IsLostBehind broken held = broken ≡ true → held ≡ []
