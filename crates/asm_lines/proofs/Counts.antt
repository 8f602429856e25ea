-- How many lines task source has.
use Rattle.std.proofs.Common.{ℕ, ◌+◌, ◌≤◌, List, length, arith}
use Rattle.std.specs.Prelude.{◌==◌}
use Rattle.std.proofs.lemmas.List.Sums.{count_by-le-length}
use Rattle.std.proofs.lemmas.List.{length-map}
use Rattle.text_pieces.specs.Lines.{lines}
use Rattle.text_pieces.proofs.LineCounts.{lines_count}
use Rattle.asm_lines.specs.SourceLines.{source_line}
use Rattle.asm_lines.specs.Faults.{source_lines}

pub lines_few : (text : List ℕ) → length (source_lines text) ≤ length text + 1
lines_few text =
    let a = length-map (lines text) source_line in
    let b = lines_count text in
    let e = count_by-le-length (λ b. b == 10) text in omega (arith, a, b, e)
