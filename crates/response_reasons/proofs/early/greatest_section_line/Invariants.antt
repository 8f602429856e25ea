use Rattle.std.proofs.Common.{◌-◌}
use Rattle.response_reasons.specs.EarlySections.{IsAround}
use Rattle.response_reasons.proofs.early.greatest_section_line.Given as goal

abbrev pub invariant-loop-range : goal.invariant-loop-range
invariant-loop-range l = IsAround l.walks.config l.walks.app l.weights l.above l.task l.counts l.range

abbrev pub decreases-loop-range : goal.decreases-loop-range
decreases-loop-range l = l.range.most - l.range.least
