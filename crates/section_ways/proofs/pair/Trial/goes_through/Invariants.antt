use Rattle.section_ways.proofs.Stretches.{IsUnderWay}
use Rattle.section_ways.proofs.pair.Trial.goes_through.Given as goal

abbrev pub invariant-loop-number : goal.invariant-loop-number
invariant-loop-number l = IsUnderWay l.self.config l.self.app l.self.above l.self.task l.initial.stack.items l.points l.number l.stack.items
