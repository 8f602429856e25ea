-- Texts have one answer of `unused`.
use Rattle.std.proofs.Common.{ℕ, List}
use Rattle.sloth_source.proofs.Unique.{never_both}
use Rattle.shares_text.specs.UnusedText.{IsUnusedText}
use Rattle.shares_text.proofs.Deciding.{one_unused_text}
use Rattle.tool_commands.proofs.SourceAnswers.{IsOneMeaning}

-- the lines of `unused`
abbrev pub UnusedSays : (oil src : List ℕ) → List ℕ → Type 0
UnusedSays oil src = λ text. IsUnusedText oil src text

pub one_unused : (oil src : List ℕ) → IsOneMeaning oil src (UnusedSays oil src)
one_unused oil src = record {
  one = λ text other h k. one_unused_text oil src text other h k;
  accepted = λ text refusal h refused. never_both oil src h.config h.app refusal h.accepted refused;
}
