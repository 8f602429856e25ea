use Rattle.mem_map.specs.Stacks.{AreStackLengths}
use Rattle.mem_map.proofs.stacks.stack_lengths.Given as goal

abbrev pub invariant-loop-number : goal.invariant-loop-number
invariant-loop-number l = AreStackLengths l.tasks l.bounds l.number l.lengths.items
