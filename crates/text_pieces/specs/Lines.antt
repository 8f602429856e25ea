-- The lines of a text.
use Rattle.std.specs.Prelude.{ℕ, Bool, ◌==◌, if◌then◌else◌, length, List, [], ◌∷◌}
use Rattle.std.specs.List.{slice_split}
use Rattle.std.specs.Str.Lines.{strip_carriage_return}

-- A CR before an LF is dropped. Behind the last part stands no LF.
abbrev pub line_of : Bool → List ℕ → List ℕ
line_of is_last part = if is_last then part else strip_carriage_return part

-- the lines without the CR at the end of each but the last
abbrev pub without_returns : List (List ℕ) → List (List ℕ)
without_returns [] = []
without_returns (part ∷ parts) = line_of (length parts == 0) part ∷ without_returns parts

-- The lines of a text end at LF (10). Behind the last LF stands one more line, which may be empty.
unfoldable pub lines : List ℕ → List (List ℕ)
lines text = without_returns (slice_split (λ b. b == 10) text)
