use Rattle.std.proofs.Common.{◌≡◌, get_or}
use Rattle.sloth_base.specs.Named.{no_item}
use Rattle.call_graph.specs.Tables.{max_below}
use Rattle.response_reasons.proofs.early.last_item_line.Given as goal

abbrev pub invariant-loop-item : goal.invariant-loop-item
invariant-loop-item l = l.last ≡ max_below l.item-index (λ i. (get_or l.items i no_item).line)
