use Rattle.std.proofs.Common.{ℕ, ◌<◌}
use Rattle.response_text.specs.PartNames.{IsTick}
use Rattle.response_text.proofs.part_names.first_tick.Given as goal

abbrev pub invariant-loop-counter : goal.invariant-loop-counter
invariant-loop-counter l = (c : ℕ) → c < l.counter → IsTick l.config l.late c → ⊥
