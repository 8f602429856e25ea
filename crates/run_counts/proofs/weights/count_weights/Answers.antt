use Rattle.std.proofs.Common.{List}
use Rattle.std.proofs.lemmas.Result.{IfOk-weaker}
use Rattle.bound_rules.specs.declared.bound.BodyWeights.{BodyWeights}
use Rattle.run_counts.specs.Counts.{AreCountsBy, AreCounts}
use Rattle.run_counts.proofs.weights.count_weights.Goals as goal

pub returns-clause-are : goal.returns-clause-are
returns-clause-are c =
    let app = c.args.app.now in
    let lengths = c.in_ok-lengths.lengths.bodies in
    let made : (weights : List BodyWeights) → AreCountsBy app lengths weights → AreCounts app weights = λ weights by. (lengths, c.in_ok-lengths.ensures.are, by) in
    IfOk-weaker _ _ _ (λ weights by. made _ by) c.weights_by.ensures.are
