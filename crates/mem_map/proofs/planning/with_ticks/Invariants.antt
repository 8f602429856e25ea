use Rattle.std.proofs.Common.{◌≡◌, ◌<◌, ◌≤◌, ◌⊎◌, ℕ, length, get_or}
use Rattle.std.specs.Prelude.{slice_index}
use Rattle.sloth_base.specs.Owners.{first_counter_line, counter_line}
use Rattle.sloth_base.specs.MemoryMap.{line_count}
use Rattle.mem_map.proofs.planning.with_ticks.Given as goal

abbrev pub invariant-loop-counter : goal.invariant-loop-counter
invariant-loop-counter l =
    ((c : ℕ) → c < l.counter → slice_index l.handlers (counter_line c) ≡ get_or l.ticks c 0)
    × ((k : ℕ) → k < line_count → (k < first_counter_line) ⊎ (counter_line l.counter ≤ k) → slice_index l.handlers k ≡ l.idle) × (length l.handlers ≡ line_count)
