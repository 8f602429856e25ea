-- The operands of a line.
use Rattle.std.specs.Prelude.{ℕ, ◌==◌, if◌then◌else◌, length, List, [], map}
use Rattle.std.specs.List.{slice_split}
use Rattle.asm_lines.specs.Bytes.{trim}

-- what stands between the commas (44), without the blanks around it
unfoldable pub operands_of : List ℕ → List (List ℕ)
operands_of t = if length t == 0 then [] else map trim (slice_split (λ b. b == 44) t)
