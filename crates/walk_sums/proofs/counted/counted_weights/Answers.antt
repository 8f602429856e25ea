use Rattle.std.proofs.Common.{◌∙◌, List, map, ap}
use Rattle.std.proofs.lemmas.List.{take_all}
use Rattle.sloth_base.specs.declared.app.Func.{Func}
use Rattle.walk_sums.specs.Counted.{body_counts}
use Rattle.walk_sums.proofs.CountedWeights.{list_fits}
use Rattle.walk_sums.proofs.counted.counted_weights.Goals as goal

pub returns-clause-fit : goal.returns-clause-fit
returns-clause-fit c =
    list_fits c.args.counted c.args.app.now c.loop-func.weights.items
    (c.loop-func.invariant ∙ ap (λ (l : List Func). map (body_counts c.args.counted) l) (take_all c.loop-func.func-index c.items-func-items.result.now c.loop-func-test.false ∙ c.items-func-items.ensures))
