use Rattle.std.proofs.Common.{take}
use Rattle.run_costs.proofs.Topping.{AreTopsOf}
use Rattle.run_costs.proofs.services.function_tops.Given as goal

abbrev pub invariant-loop-number : goal.invariant-loop-number
invariant-loop-number l = AreTopsOf l.walks.config l.walks.app l.counted (take l.number-index l.walks.order) l.table.items
