-- The words of the command.
use Rattle.std.specs.Prelude.{◌≡◌, ℕ, List, [], ◌∷◌, codes}
use Rattle.debug_command.specs.declared.command.DebugWords.{DebugWords}

-- the names of the image file and of the arrivals
pub record Debugging : Type 0 where
  pub img : List ℕ
  pub arr : List ℕ

-- these are the words `debug IMG ARR`
abbrev pub IsDebugging : List (List ℕ) → Debugging → Type 0
IsDebugging words d = words ≡ codes "debug" ∷ d.img ∷ d.arr ∷ []

-- the names of these words
abbrev pub debugging_of : DebugWords → Debugging
debugging_of words = record { img = words.img.now; arr = words.arr.now }
