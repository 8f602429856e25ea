use Rattle.std.proofs.Common.{◌≡◌, get_or}
use Rattle.call_graph.specs.Tables.{max_below}
use Rattle.bounds_text.proofs.task_lines.heaviest_item.Given as goal

abbrev pub invariant-loop-item : goal.invariant-loop-item
invariant-loop-item l = l.most ≡ max_below l.item (λ i. get_or l.going i 0)
