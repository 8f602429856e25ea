use Rattle.std.proofs.Common.{ℕ}
use Rattle.osek_scheduler.specs.Priority.{ceiling}
use Rattle.call_graph.proofs.Growing.{grown}
use Rattle.walk_sums.proofs.bodies.ceilings.Goals as goal

pub loop-resource-preserved : goal.loop-resource-preserved
loop-resource-preserved c =
    let g = grown ℕ c.loop-resource.table.items c.push.new.list.items c.ceiling.result 0 c.loop-resource.resource (ceiling c.args.config.now)
    c.loop-resource.invariant.count c.loop-resource.invariant.exact c.in_ok-push.ensures c.ceiling.ensures in
    record { count = g.count; exact = g.exact }
