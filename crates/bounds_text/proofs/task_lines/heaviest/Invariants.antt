use Rattle.std.proofs.Common.{◌≡◌, get_or}
use Rattle.call_graph.specs.Tables.{max_below}
use Rattle.bound_rules.specs.Weights.{no_weights}
use Rattle.bounds_text.specs.LowerCounts.{heaviest_item}
use Rattle.bounds_text.proofs.task_lines.heaviest.Given as goal

abbrev pub invariant-loop-body : goal.invariant-loop-body
invariant-loop-body l = l.most ≡ max_below l.body (λ f. heaviest_item (get_or l.weights f no_weights).going)
