use Rattle.std.proofs.Common.{◌≡◌, length}
use Rattle.rv32_expand.specs.Long.{BranchSet, IsSufficient, IsInSet}
use Rattle.rv32_expand.specs.Passes.{set_in_list, short_count}
use Rattle.rv32_expand.proofs.lengths.shortest.Given as goal

abbrev pub invariant-loop-long : goal.invariant-loop-long
invariant-loop-long l = record {
  count : length l.long.items ≡ length l.body.items;
  least : (other : BranchSet) → IsSufficient l.app l.body other → IsInSet l.body (set_in_list l.long.items) other;
}

abbrev pub decreases-loop-long : goal.decreases-loop-long
decreases-loop-long l = short_count l.long.items
