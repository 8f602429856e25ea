-- Texts have one answer of `shares`.
use Rattle.std.proofs.Common.{ℕ, List}
use Rattle.sloth_source.proofs.Unique.{never_both}
use Rattle.shares_text.specs.SharesText.{IsSharesText}
use Rattle.shares_text.proofs.OneText.{one_text}
use Rattle.tool_commands.proofs.SourceAnswers.{IsOneMeaning}

-- the lines of `shares`
abbrev pub SharesSays : (oil src : List ℕ) → List ℕ → Type 0
SharesSays oil src = λ text. IsSharesText oil src text

pub one_shares : (oil src : List ℕ) → IsOneMeaning oil src (SharesSays oil src)
one_shares oil src = record {
  one = λ text other h k. one_text oil src text other h k;
  accepted = λ text refusal h refused. never_both oil src h.config h.app refusal h.accepted refused;
}
