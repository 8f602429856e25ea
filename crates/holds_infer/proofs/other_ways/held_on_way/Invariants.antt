use Rattle.std.proofs.Common.{◌≡◌, ℕ, ◌<◌, take}
use Rattle.holds_infer.specs.LabelWays.{held_on_way, IsWayStep}
use Rattle.holds_infer.proofs.other_ways.held_on_way.Given as goal

abbrev pub invariant-loop-number : goal.invariant-loop-number
invariant-loop-number l = record {
  held : l.held.items ≡ held_on_way l.func (take l.number l.way);
  each : (n : ℕ) → n < l.number → IsWayStep l.func l.goal l.way n;
}
