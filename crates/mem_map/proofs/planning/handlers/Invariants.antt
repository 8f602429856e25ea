use Rattle.std.proofs.Common.{◌≡◌, ◌<◌, ◌≤◌, ◌⊎◌, ℕ, length, get_or, take}
use Rattle.std.specs.Prelude.{slice_index}
use Rattle.sloth_base.specs.Owners.{first_counter_line, counter_line}
use Rattle.sloth_base.specs.MemoryMap.{line_count}
use Rattle.mem_map.proofs.planning.handlers.Given as goal

abbrev pub invariant-loop-task : goal.invariant-loop-task
invariant-loop-task l =
    (take l.task l.handlers ≡ take l.task l.prologues)
    × ((c : ℕ) → c < length l.ticks → slice_index l.handlers (counter_line c) ≡ get_or l.ticks c 0)
    × ((k : ℕ) → l.task ≤ k → k < line_count → (k < first_counter_line) ⊎ (counter_line (length l.ticks) ≤ k) → slice_index l.handlers k ≡ l.idle)
    × (length l.handlers ≡ line_count)
