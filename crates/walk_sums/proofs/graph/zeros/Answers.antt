use Rattle.std.proofs.Common.{◌∙◌, ℕ, List, get_or, ap}
use Rattle.walk_sums.proofs.Settling.{all_default}
use Rattle.walk_sums.proofs.graph.zeros.Goals as goal

pub returns-clause-none : goal.returns-clause-none
returns-clause-none c = λ i.
    ap (λ (l : List ℕ). get_or l i 0) (c.in_ok-table.ensures.items_if_clones_equal (λ y same. same)) ∙ all_default 0 c.args.count i
