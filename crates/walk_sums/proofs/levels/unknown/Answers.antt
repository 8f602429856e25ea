use Rattle.bound_rules.specs.declared.bound.Summary.{Summary}
use Rattle.bound_rules.specs.Summaries.{unknown}
use Rattle.call_graph.proofs.Growing.{filled_more}
use Rattle.walk_sums.proofs.levels.unknown.Goals as goal

pub loop-number-preserved : goal.loop-number-preserved
loop-number-preserved c =
    let f = filled_more Summary c.loop-number.table.items c.push.new.list.items unknown c.loop-number._number
    c.loop-number.invariant.count c.loop-number.invariant.none c.in_ok-push.ensures in
    record { count = f.count; none = f.all }
