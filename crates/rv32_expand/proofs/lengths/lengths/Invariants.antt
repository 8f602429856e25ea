use Rattle.std.proofs.Common.{◌≡◌, ◌<◌, ℕ, length, get_or}
use Rattle.rv32_expand.specs.Long.{size_at}
use Rattle.rv32_expand.specs.Passes.{set_in_list}
use Rattle.rv32_expand.proofs.lengths.lengths.Given as goal

abbrev pub invariant-loop-index : goal.invariant-loop-index
invariant-loop-index l = record {
  count : length l.lengths.items ≡ l.index;
  each : (k : ℕ) → k < l.index → get_or l.lengths.items k 0 ≡ size_at l.app l.body (set_in_list l.long) k;
}
