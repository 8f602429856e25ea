use Rattle.std.proofs.Common.{◌≡◌, ℕ, ◌+◌, ◌<◌, ◌≤◌}
use Rattle.sloth_base.specs.Named.{label_of}
use Rattle.code_rules.specs.Code.{held_list_at}
use Rattle.fault_witnesses.specs.CleanWays.{IsCleanStep}
use Rattle.fault_witnesses.proofs.straight_ways.is_straight.Given as goal

abbrev pub invariant-loop-item : goal.invariant-loop-item
invariant-loop-item l = record {
  held : l.held.items ≡ held_list_at l.func l.item;
  each : (i : ℕ) → (label_of l.func l.fn.label).item ≤ i → i < l.item → IsCleanStep l.func i (i + 1);
}
