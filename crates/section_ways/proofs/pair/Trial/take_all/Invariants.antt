use Rattle.section_ways.specs.Standings.{IsStart}
use Rattle.section_ways.proofs.pair.Trial.take_all.Given as goal

abbrev pub invariant-loop-number : goal.invariant-loop-number
invariant-loop-number l = IsStart l.self.config l.self.app l.self.above l.self.task l.stack.items
