use Rattle.std.proofs.Common.{take, None}
use Rattle.walk_sums.proofs.OrderSummaries.{AreSummariesOf}
use Rattle.walk_sums.proofs.walks.Walks.whole_sums.Given as goal

abbrev pub invariant-loop-number : goal.invariant-loop-number
invariant-loop-number l = AreSummariesOf l.self.config l.self.app l.weights l.kind None (take l.number-index l.self.order) l.whole.items
