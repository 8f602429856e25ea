use Rattle.std.proofs.Common.{Bool, false, refl}
use Rattle.bound_rules.specs.declared.bound.Summary.{Summary}
use Rattle.bound_rules.specs.Summaries.{summary_of, unknown}
use Rattle.walk_sums.specs.Computed.{is_passed}
use Rattle.call_graph.proofs.Growing.{grown}
use Rattle.walk_sums.proofs.Mapping.{same_behind}
use Rattle.walk_sums.proofs.items.passed_functions.Goals as goal

pub loop-summary-preserved : goal.loop-summary-preserved
loop-summary-preserved c =
    let g = grown Bool c.loop-summary.passed.items c.push.new.list.items _ false c.loop-summary.summary-index (λ g. is_passed (summary_of c.args.whole.now g))
    c.loop-summary.invariant.count c.loop-summary.invariant.exact c.in_ok-push.ensures refl in
    record { count = g.count; exact = g.exact }

pub returns : goal.returns
returns c =
    same_behind Summary Bool is_passed c.args.whole.now unknown c.loop-summary.passed.items c.loop-summary.summary-index c.loop-summary-test.false c.loop-summary.invariant.count
    c.loop-summary.invariant.exact
