-- Texts have one answer of `map`.
use Rattle.std.proofs.Common.{ℕ, List}
use Rattle.sloth_source.proofs.Unique.{never_both}
use Rattle.map_text.specs.MapText.{IsMapText}
use Rattle.map_text.proofs.OneText.{one_text}
use Rattle.tool_commands.proofs.SourceAnswers.{IsOneMeaning}

-- the lines of `map`
abbrev pub MapSays : (oil src : List ℕ) → List ℕ → Type 0
MapSays oil src = λ text. IsMapText oil src text

pub one_map : (oil src : List ℕ) → IsOneMeaning oil src (MapSays oil src)
one_map oil src = record {
  one = λ text other h k. one_text oil src text other h k;
  accepted = λ text refusal h refused. never_both oil src h.config h.app refusal h.accepted refused;
}
