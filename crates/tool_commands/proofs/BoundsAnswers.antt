-- Texts have one answer of `bounds`, one with `latency`, and one with `counts`.
use Rattle.std.proofs.Common.{ℕ, List}
use Rattle.sloth_source.proofs.Unique.{never_both}
use Rattle.bounds_text.specs.BoundsText.{IsBoundsText}
use Rattle.bounds_text.specs.Latency.{IsLatencyText}
use Rattle.bounds_text.specs.LowerCounts.{IsLowerCountsText}
use Rattle.bounds_text.proofs.OneText.{one_text}
use Rattle.bounds_text.proofs.OneLatency.{one_latency_text}
use Rattle.bounds_text.proofs.OneLowerCounts.{one_lower_counts_text}
use Rattle.tool_commands.proofs.SourceAnswers.{IsOneMeaning}

-- the lines of `bounds`
abbrev pub BoundsSays : (oil src : List ℕ) → List ℕ → Type 0
BoundsSays oil src = λ text. IsBoundsText oil src text

pub one_bounds : (oil src : List ℕ) → IsOneMeaning oil src (BoundsSays oil src)
one_bounds oil src = record {
  one = λ text other h k. one_text oil src text other h k;
  accepted = λ text refusal h refused. never_both oil src h.config h.app refusal h.accepted refused;
}

-- the lines of `bounds` with `latency`
abbrev pub LatencySays : (oil src : List ℕ) → List ℕ → Type 0
LatencySays oil src = λ text. IsLatencyText oil src text

pub one_latency : (oil src : List ℕ) → IsOneMeaning oil src (LatencySays oil src)
one_latency oil src = record {
  one = λ text other h k. one_latency_text oil src text other h k;
  accepted = λ text refusal h refused. never_both oil src h.config h.app refusal h.accepted refused;
}

-- the lines of `bounds` with `counts`
abbrev pub LowerCountsSays : (oil src : List ℕ) → List ℕ → Type 0
LowerCountsSays oil src = λ text. IsLowerCountsText oil src text

pub one_lower_counts : (oil src : List ℕ) → IsOneMeaning oil src (LowerCountsSays oil src)
one_lower_counts oil src = record {
  one = λ text other h k. one_lower_counts_text oil src text other h k;
  accepted = λ text refusal h refused. never_both oil src h.config h.app refusal h.accepted refused;
}
