use Rattle.std.proofs.Common.{◌≡◌}
use Rattle.call_graph.specs.Tables.{max_below}
use Rattle.run_costs.specs.Tops.{item_top}
use Rattle.run_costs.proofs.services.body_top.Given as goal

abbrev pub invariant-loop-number : goal.invariant-loop-number
invariant-loop-number l = l.top ≡ max_below l.number (item_top l.counted l.func l.body l.table)
