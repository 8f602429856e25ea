use Rattle.std.proofs.Common.{subst, rules}
use Rattle.sloth_base.specs.declared.app.Func.{Func}
use Rattle.sloth_base.specs.Named.{function}
use Rattle.bound_rules.specs.declared.bound.BodyWeights.{BodyWeights}
use Rattle.bound_rules.specs.Weights.{no_weights}
use Rattle.run_counts.specs.Counts.{AreBodyCounts, AreCountsBy}
use Rattle.call_graph.proofs.Growing.{held_more}
use Rattle.run_counts.proofs.CountsFit.{counts_fit}
use Rattle.run_counts.proofs.weights.weights_by.Goals as goal

pub loop-number-preserved : goal.loop-number-preserved
loop-number-preserved c =
    let lengths = c.args.lengths.now.bodies in
    let app = c.args.app.now in
    let own = c.in_ok-own.own in
    let here = subst (λ (f : Func). AreBodyCounts lengths c.loop-number.number f own) c.function.ensures c.in_ok-own.ensures in
    let g =
    held_more BodyWeights (λ f w. AreBodyCounts lengths f (function app f) w) c.loop-number.weights.items c.push.new.list.items own no_weights c.loop-number.number
    c.loop-number.invariant.count c.loop-number.invariant.each c.in_ok-push.ensures here in
    record { count = g.count; each = g.each }

pub returns-clause-fit : goal.returns-clause-fit
returns-clause-fit c =
    let app = c.args.app.now in
    let lengths = c.args.lengths.now.bodies in
    let by : AreCountsBy app lengths c.loop-number.weights.items = search rules in
    counts_fit app lengths c.requires.short c.loop-number.weights.items by
