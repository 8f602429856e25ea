use Rattle.std.proofs.Common.{◌≡◌, ◌<◌, ◌≤◌, ◌*◌, ℕ, length, get_or}
use Rattle.rv32_expand.specs.Long.{place}
use Rattle.rv32_expand.specs.Passes.{set_in_list}
use Rattle.rv32_expand.proofs.lengths.places.Given as goal

abbrev pub invariant-loop-index : goal.invariant-loop-index
invariant-loop-index l = record {
  count : length l.places.items ≡ l.index;
  each : (k : ℕ) → k < l.index → get_or l.places.items k 0 ≡ place l.app l.body (set_in_list l.long) k;
  next : l.place ≡ place l.app l.body (set_in_list l.long) l.index;
  few : l.place ≤ 36 * l.index;
}
