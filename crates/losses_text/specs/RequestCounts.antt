-- How many requests there are.
use Rattle.std.specs.Prelude.{ℕ, ◌==◌, ◌&&◌, not, Bool, List, length, filter, Option}
use Rattle.std.specs.List.{find}
use Rattle.losses_text.specs.declared.requests.Request.{Request}

abbrev pub is_of : (line : ℕ) → Request → Bool
is_of line r = r.line == line

abbrev pub is_taken_of : (line : ℕ) → Request → Bool
is_taken_of line r = (r.line == line) && not r.lost

abbrev pub is_lost_of : (line : ℕ) → Request → Bool
is_lost_of line r = (r.line == line) && r.lost

-- how many requests of a line came, and how many of them were taken and lost
abbrev pub came_count : List Request → (line : ℕ) → ℕ
came_count all line = length (filter (is_of line) all)

abbrev pub taken_count : List Request → (line : ℕ) → ℕ
taken_count all line = length (filter (is_taken_of line) all)

abbrev pub lost_count : List Request → (line : ℕ) → ℕ
lost_count all line = length (filter (is_lost_of line) all)

-- the first one that was lost, if one was
abbrev pub first_lost : List Request → (line : ℕ) → Option Request
first_lost all line = find (is_lost_of line) all
