use Rattle.std.proofs.Common.{◌≡◌, ◌≤◌}
use Rattle.mem_map.specs.StackParts.{own_before}
use Rattle.mem_map.proofs.stacks.own_before.Given as goal

abbrev pub invariant-loop-number : goal.invariant-loop-number
invariant-loop-number l = (l.count ≡ own_before l.tasks l.number) × (l.count ≤ l.number)
