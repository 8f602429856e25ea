use Rattle.std.proofs.Common.{◌∙◌, List, ap, sym, subst, get_or}
use Rattle.std.proofs.lemmas.Bool.{true≢false}
use Rattle.std.proofs.lemmas.Result.{IfOk-weaker}
use Rattle.sloth_base.specs.declared.app.App.{App}
use Rattle.bound_rules.specs.declared.bound.BodyWeights.{BodyWeights}
use Rattle.walk_sums.specs.declared.sections.Sum.{Sum}
use Rattle.walk_sums.specs.Counted.{counted_weights}
use Rattle.walk_sums.specs.Sections.{AreToldSums}
use Rattle.walk_sums.specs.Weights.{AreWeights}
use Rattle.run_costs.specs.RunRecord.{AreSummed}
use Rattle.run_costs.proofs.Times.{asked_lower}
use Rattle.run_costs.proofs.sections.asked_sums.Goals as goal

pub returns-then-not-some_asked : goal.returns-then-not-some_asked
returns-then-not-some_asked c = λ k lt e. absurd (true≢false (sym e ∙ c.some_asked.ensures c.if-not-some_asked.true k lt))

pub sums_above-requires-clause-weights : goal.sums_above-requires-clause-weights
sums_above-requires-clause-weights c =
    subst (AreWeights c.args.walks.now.app) (sym c.deref.ensures.value)
    (subst (λ (a : App). AreWeights a c.in_ok-weights.weights.items) c.app.ensures.is c.in_ok-weights.ensures.fit)

pub returns : goal.returns
returns c =
    let w = c.args.walks.now in
    let counted = c.args.counted in
    let tops = c.args.tops.now in
    let is = c.deref.ensures.value ∙ c.in_ok-weights.ensures.is ∙ ap (counted_weights counted) c.app.ensures.is in
    let made : (sums : List Sum) → AreToldSums w.config w.app c.deref.result.now c.args.h sums → AreSummed w.config w.app counted c.args.h c.args.j tops sums =
    λ sums are k lt e.
    let told = subst (λ (l : List BodyWeights). AreToldSums w.config w.app l c.args.h sums) is are in
    (told.each k lt).lower (asked_lower w.config w.app c.args.h c.args.j k (get_or tops k 0) lt e) in
    IfOk-weaker _ _ _ (λ v are. made _ are) c.sums_above.ensures
