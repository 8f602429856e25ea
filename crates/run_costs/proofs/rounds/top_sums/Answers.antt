use Rattle.std.proofs.Common.{List, ◌≡◌, ◌∙◌, false, get_or, ap, sym, subst}
use Rattle.std.proofs.lemmas.Result.{IfOk-weaker}
use Rattle.sloth_base.specs.declared.app.App.{App}
use Rattle.sloth_base.specs.Named.{declaration}
use Rattle.walk_sums.proofs.Bodily.{facts_of}
use Rattle.bound_rules.specs.declared.bound.BodyWeights.{BodyWeights}
use Rattle.walk_sums.specs.declared.sections.RoundSums.{RoundSums}
use Rattle.walk_sums.specs.Counted.{counted_weights}
use Rattle.walk_sums.specs.Weights.{AreWeights}
use Rattle.run_costs.specs.Makings.{AreRoundSums, AreCountedSums}
use Rattle.run_costs.specs.Rounds.{AreRounds}
use Rattle.run_costs.specs.Tables.{no_sums}
use Rattle.run_costs.proofs.Uncounted.{uncounted}
use Rattle.run_costs.proofs.rounds.top_sums.Goals as goal

pub returns-then-not-some_top : goal.returns-then-not-some_top
returns-then-not-some_top c = λ t lt.
    let config = c.args.walks.now.config in
    let app = c.args.walks.now.app in
    subst (λ (l : List RoundSums). AreRounds app (get_or c.args.clean.now t false) (declaration config t).extended t (counted_weights c.args.counted app) (get_or l t no_sums)) (sym c.new.ensures.items)
    (uncounted config app (facts_of config app c.app-app.ensures.well_formed) t lt c.args.counted (get_or c.args.tops.now t 0) (c.requires.each t lt)
    (c.some_top.ensures c.if-not-some_top.true t) (get_or c.args.clean.now t false) (declaration config t).extended)

pub round_sums-requires : goal.round_sums-requires
round_sums-requires c =
    subst (AreWeights c.args.walks.now.app) (sym c.deref.ensures.value)
    (subst (λ (a : App). AreWeights a c.in_ok-weights.weights.items) c.app-app.ensures.is c.in_ok-weights.ensures.fit)

pub returns : goal.returns
returns c =
    let config = c.args.walks.now.config in
    let app = c.args.walks.now.app in
    let made : (sums : List RoundSums) → AreRoundSums config app c.args.clean.now c.deref.result.now sums → AreCountedSums config app c.args.clean.now c.args.counted sums
    = λ sums are. (subst (λ (l : List BodyWeights). AreRoundSums config app c.args.clean.now l sums) (c.deref.ensures.value ∙ c.in_ok-weights.ensures.is ∙ ap (counted_weights c.args.counted) c.app-app.ensures.is) are).each in
    IfOk-weaker _ _ _ (λ v are. made _ are) c.round_sums.ensures
