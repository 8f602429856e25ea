use Rattle.std.proofs.Common.{take, Some}
use Rattle.walk_sums.proofs.OrderSummaries.{AreSummariesOf}
use Rattle.walk_sums.proofs.walks.Walks.own_sums.Given as goal

abbrev pub invariant-loop-number : goal.invariant-loop-number
invariant-loop-number l = AreSummariesOf l.self.config l.self.app l.weights l.kind (Some l.priority) (take l.number-index l.self.order) l.own.items
