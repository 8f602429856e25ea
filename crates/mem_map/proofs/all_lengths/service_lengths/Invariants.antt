use Rattle.std.proofs.Common.{ℕ, ◌≡◌, ◌<◌, get_or, length}
use Rattle.sloth_base.specs.Blocks.{block_count}
use Rattle.mem_map.specs.Lengths.{wanted_length}
use Rattle.mem_map.proofs.all_lengths.service_lengths.Given as goal

abbrev pub invariant-loop-number : goal.invariant-loop-number
invariant-loop-number l = ((k : ℕ) → k < l.number → get_or l.lengths k 0 ≡ wanted_length l.app k) × (length l.lengths ≡ block_count)
