use Rattle.std.proofs.Common.{◌∙◌, Bool, List, false, get_or, ap}
use Rattle.std.proofs.lemmas.List.{get_or-replicate}
use Rattle.walk_sums.proofs.graph.no_marks.Goals as goal

pub returns-clause-clear : goal.returns-clause-clear
returns-clause-clear c = λ i lt.
    ap (λ (l : List Bool). get_or l i false) (c.in_ok-marks.ensures.items_if_clones_equal (λ y same. same)) ∙ get_or-replicate c.args.count i false false lt
