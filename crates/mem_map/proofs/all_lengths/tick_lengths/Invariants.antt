use Rattle.std.proofs.Common.{ℕ, ◌≡◌, ◌<◌, get_or, length}
use Rattle.code_lengths.specs.CodeLengths.{tick_length}
use Rattle.mem_map.proofs.all_lengths.tick_lengths.Given as goal

abbrev pub invariant-loop-counter : goal.invariant-loop-counter
invariant-loop-counter l =
    (length l.lengths.items ≡ l.counter) × ((c : ℕ) → c < l.counter → get_or l.lengths.items c 0 ≡ tick_length c l.config.alarms)
