-- The first lines of a summary, and all of them.
use Rattle.std.proofs.Common.{◌≡◌, ◌<◌, ◌+◌, ℕ, List, [], ◌++◌, refl, ap}
use Rattle.std.proofs.Math.Numerals.{add-one}
use Rattle.sloth_io.specs.Sink.{Output, output_with, GainsPart}
use Rattle.trace_text.specs.Summary.{kind_line, first_kinds}
use Rattle.sloth_runner.proofs.LineByLine.{took-no-lines, took-one-more, broke-at}

no-kinds : (counts : List ℕ) → first_kinds counts 0 ≡ []
unfolding first_kinds
no-kinds counts = refl

one-kind-more : (counts : List ℕ) (k : ℕ) → first_kinds counts (k + 1) ≡ first_kinds counts k ++ kind_line counts k
unfolding first_kinds
one-kind-more counts k = ap (first_kinds counts) (add-one k)

pub took-kind : (counts : List ℕ) (old mid new : Output) (k : ℕ) → mid ≡ output_with old (first_kinds counts k) → new ≡ output_with mid (kind_line counts k)
    → new ≡ output_with old (first_kinds counts (k + 1))
took-kind counts = took-one-more (kind_line counts) (first_kinds counts) (one-kind-more counts)

pub broke-in-kind : (counts : List ℕ) (old mid new : Output) (n k : ℕ) → k < n → mid ≡ output_with old (first_kinds counts k)
    → GainsPart mid new (kind_line counts k) → GainsPart old new (first_kinds counts n)
broke-in-kind counts = broke-at (kind_line counts) (first_kinds counts) (one-kind-more counts)

pub took-no-kinds : (counts : List ℕ) (old : Output) → old ≡ output_with old (first_kinds counts 0)
took-no-kinds counts = took-no-lines (first_kinds counts) (no-kinds counts)
