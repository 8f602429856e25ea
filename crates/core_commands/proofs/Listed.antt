-- The first lines of a listing, and all of them.
use Rattle.std.proofs.Common.{◌≡◌, ◌<◌, ◌+◌, ℕ, List, [], ◌∷◌, ◌++◌, refl, ap}
use Rattle.std.proofs.Math.Numerals.{add-one}
use Rattle.sloth_base.specs.declared.image.Image.{Image}
use Rattle.sloth_io.specs.Sink.{Output, output_with, GainsPart}
use Rattle.trace_text.specs.Listing.{first_lines, line_at}
use Rattle.sloth_runner.proofs.LineByLine.{took-no-lines, took-one-more, broke-at}

-- a line with its LF
abbrev pub ended : Image → ℕ → List ℕ
ended image k = line_at image k ++ 10 ∷ []

no-lines : (image : Image) → first_lines image 0 ≡ []
unfolding first_lines
no-lines image = refl

one-more : (image : Image) (k : ℕ) → first_lines image (k + 1) ≡ first_lines image k ++ ended image k
unfolding first_lines
one-more image k = ap (first_lines image) (add-one k)

pub took-more : (image : Image) (old mid new : Output) (k : ℕ) → mid ≡ output_with old (first_lines image k) → new ≡ output_with mid (ended image k)
    → new ≡ output_with old (first_lines image (k + 1))
took-more image = took-one-more (ended image) (first_lines image) (one-more image)

pub broke-later : (image : Image) (old mid new : Output) (n k : ℕ) → k < n → mid ≡ output_with old (first_lines image k) → GainsPart mid new (ended image k)
    → GainsPart old new (first_lines image n)
broke-later image = broke-at (ended image) (first_lines image) (one-more image)

pub took-none : (image : Image) (old : Output) → old ≡ output_with old (first_lines image 0)
took-none image = took-no-lines (first_lines image) (no-lines image)
