-- What the texts of a generated application are made of.
use Rattle.std.specs.Prelude.{ℕ, ◌%◌, ◌==◌, Bool, List, ◌++◌, decimal}

-- a text and a number in decimal digits, as `T12`
unfoldable pub number_behind : List ℕ → ℕ → List ℕ
number_behind text number = text ++ decimal number

-- every fifth task has an event of its own, so it is extended
abbrev pub has_event : ℕ → Bool
has_event i = i % 5 == 4
