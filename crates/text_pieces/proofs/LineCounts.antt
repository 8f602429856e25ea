-- How many lines a text has.
use Rattle.std.proofs.Common.{◌≡◌, ℕ, ◌+◌, List, [], ◌∷◌, length, refl, ◌∙◌, arith, count_by}
use Rattle.std.specs.Prelude.{◌==◌}
use Rattle.std.specs.List.{slice_split}
use Rattle.std.proofs.lemmas.List.Splits.{length-slice_split}
use Rattle.text_pieces.specs.Lines.{without_returns, lines}

length-without_returns : (ls : List (List ℕ)) → length (without_returns ls) ≡ length ls
length-without_returns [] = refl
length-without_returns (l ∷ ls) = let ih = length-without_returns ls in omega (arith, ih)

-- a text has one line more than it has LF bytes
pub lines_count : (text : List ℕ) → length (lines text) ≡ count_by (λ b. b == 10) text + 1
unfolding lines
lines_count text = length-without_returns (slice_split (λ b. b == 10) text) ∙ length-slice_split (λ b. b == 10) text
