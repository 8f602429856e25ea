use Rattle.std.proofs.Common.{rules, ◌≡◌, ◌∙◌, List, max, ap, sym, subst}
use Rattle.bound_rules.specs.declared.bound.BodyWeights.{BodyWeights}
use Rattle.walk_sums.specs.WalkedCode.{WalkedCode}
use Rattle.walk_sums.specs.Weights.{AreWeights}
use Rattle.run_counts.specs.Counts.{AreCounts}
use Rattle.run_costs.specs.RunCosts.{AreRunCosts}
use Rattle.run_costs.specs.RunRecord.{late_of}
use Rattle.run_costs.proofs.Taking.{run_take_counts}
use Rattle.run_costs.proofs.record.run_costs.Goals as goal

pub running_counts-requires-clause-bodies : goal.running_counts-requires-clause-bodies
running_counts-requires-clause-bodies c = λ t there. let body = c.requires.well_formed.in_range.tasks.body t there in (body.0, body.1.0, body.1.1)

pub running_counts-requires-clause-frames : goal.running_counts-requires-clause-frames
running_counts-requires-clause-frames c = λ i d inside. (c.requires.well_formed.in_range.bodies i d inside).frame

pub costs-requires-clause-counts : goal.costs-requires-clause-counts
costs-requires-clause-counts c =
    subst (λ (w : WalkedCode). AreCounts w.app c.deref-2.result.now) (sym c.of-walks.ensures)
    (subst (AreCounts c.args.app.now) (sym c.deref-2.ensures.value) c.in_ok-weights.ensures.are)

pub costs-requires-clause-fit : goal.costs-requires-clause-fit
costs-requires-clause-fit c =
    subst (λ (w : WalkedCode). AreWeights w.app c.deref-2.result.now) (sym c.of-walks.ensures)
    (subst (AreWeights c.args.app.now) (sym c.deref-2.ensures.value) c.in_ok-weights.ensures.fit)

pub returns : goal.returns
returns c =
    let config = c.args.config.now in
    let app = c.args.app.now in
    let costs = subst (λ (w : WalkedCode). AreRunCosts w.config w.app c.args.load.now c.in_ok-costs.costs) c.of-walks.ensures c.in_ok-costs.ensures in
    let late : c.max-late.result ≡ late_of config app c.deref.result.now = search rules in
    record {
      longest = (c.in_ok-lengths.lengths.bodies, c.in_ok-lengths.ensures.are, c.max-longest.ensures ∙ ap (λ n. max n 1) c.longest_item.ensures);
      late = (c.in_ok-weights.weights.items, c.in_ok-weights.ensures.are, late ∙ ap (λ (l : List BodyWeights). late_of config app l) c.deref.ensures.value);
      costs = costs;
      take_counts = run_take_counts config app c.args.load.now c.in_ok-costs.costs costs;
      count = costs.tasks.count;
    }
