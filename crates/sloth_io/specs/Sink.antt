-- What a sink shows, and what it takes.
use Rattle.std.specs.Prelude.{◌≡◌, ◌+◌, ◌<◌, ℕ, min, List, ◌++◌, length, Option, Some, None}

-- the bytes taken, where the sink tells them; how many it takes before a call fails, where it tells that; and how many calls have failed
pub record Output : Type 0 where
  pub taken : Option (List ℕ)
  pub space : Option ℕ
  pub faults : ℕ

-- the bytes taken after a piece more; a sink that does not tell them goes on so
abbrev pub longer_bytes : Option (List ℕ) → List ℕ → Option (List ℕ)
longer_bytes None piece = None
longer_bytes (Some taken) piece = Some (taken ++ piece)

-- what a sink shows after a piece more: nothing else has changed
abbrev pub output_with : Output → List ℕ → Output
output_with old piece = record { taken = longer_bytes old.taken piece; space = old.space; faults = old.faults }

-- one failed call is counted
abbrev pub failed_output : Output → Output
failed_output old = record { taken = old.taken; space = old.space; faults = min (old.faults + 1) 18446744073709551615 }

-- there is no space for a piece; nothing is said of a sink that does not tell its space
abbrev pub HasNoSpace : Option (List ℕ) → Option ℕ → List ℕ → Type 0
HasNoSpace taken None piece = Unit {0}
HasNoSpace None (Some space) piece = Unit {0}
HasNoSpace (Some taken) (Some space) piece = space < length taken + length piece

-- a call failed: the sink took some first part of a piece, for which it has no space where it tells its space
abbrev pub GainsPart : Output → Output → List ℕ → Type 0
GainsPart old new piece =
    (part rest : List ℕ) × (piece ≡ part ++ rest) × (new ≡ failed_output (output_with old part)) × HasNoSpace old.taken old.space piece

-- what was taken was not handed on, which a sink that tells its space never answers; one failed call is counted
abbrev pub FailsToPassOn : Output → Output → Type 0
FailsToPassOn old new = (old.space ≡ None) × (new ≡ failed_output old)
