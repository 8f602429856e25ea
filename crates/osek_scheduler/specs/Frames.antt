-- Functions in progress, the innermost first.
use Rattle.std.specs.Prelude.{ℕ, ◌<◌, List, [], ◌∷◌, length}
use Rattle.osek_scheduler.specs.State.{Frame}

-- the number of the innermost function's next item may grow
abbrev pub CanMove : List Frame → Type 0
CanMove [] = Unit {0}
CanMove (frame ∷ outer) = frame.item < 4294967295

-- the innermost frame has the word
abbrev pub HasWord : ℕ → List Frame → Type 0
HasWord word [] = Unit {0}
HasWord word (frame ∷ outer) = word < length frame.words
