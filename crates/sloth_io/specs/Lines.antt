-- Texts that are put line by line.
use Rattle.std.specs.Prelude.{◌≡◌, ◌==◌, ℕ, suc, List, [], ◌∷◌, ◌++◌, if◌then◌else◌}
use Rattle.std.specs.List.{concat}
use Rattle.sloth_io.specs.Sink.{Output, output_with, GainsPart}

-- a byte in front of the first of these lines
abbrev pub before_first : ℕ → List (List ℕ) → List (List ℕ)
before_first byte [] = (byte ∷ []) ∷ []
before_first byte (line ∷ lines) = (byte ∷ line) ∷ lines

-- the lines of a text, each with its LF, and last the bytes behind the last LF, if there are some
abbrev pub lines_in : List ℕ → List (List ℕ)
lines_in [] = []
lines_in (byte ∷ rest) = if byte == 10 then (byte ∷ []) ∷ lines_in rest else before_first byte (lines_in rest)

-- the number of bytes of the first line, with its LF, if it has one
abbrev pub line_size : List ℕ → ℕ
line_size [] = 0
line_size (byte ∷ rest) = if byte == 10 then 1 else suc (line_size rest)

-- each line of the text was one put, up to one that failed: the sink took all lines before it, and some first part of it
pub record BreaksOffInLine (old new : Output) (before after : List (List ℕ)) (text : List ℕ) : Type 0 where
  pub done : List (List ℕ)
  pub line : List ℕ
  pub rest : List (List ℕ)
  pub cut : lines_in text ≡ done ++ line ∷ rest
  pub pieces : after ≡ before ++ (done ++ line ∷ [])
  pub taken : GainsPart (output_with old (concat done)) new line
