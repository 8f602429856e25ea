use Rattle.std.proofs.Common.{◌≡◌, get_or}
use Rattle.sloth_base.specs.Named.{no_function}
use Rattle.call_graph.specs.Tables.{max_below}
use Rattle.response_reasons.specs.EarlySections.{last_item_line}
use Rattle.response_reasons.proofs.early.last_line.Given as goal

abbrev pub invariant-loop-func : goal.invariant-loop-func
invariant-loop-func l = l.last ≡ max_below l.func-index (λ f. last_item_line (get_or l.funcs f no_function).items)
