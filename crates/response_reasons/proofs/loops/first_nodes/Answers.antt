use Rattle.std.proofs.Common.{◌≡◌, length, subst, arith}
use Rattle.call_graph.proofs.Growing.{grown}
use Rattle.walk_sums.specs.declared.graph.Ways.{Ways}
use Rattle.walk_sums.specs.Graph.{no_ways}
use Rattle.response_reasons.specs.Doubled.{first_ways}
use Rattle.response_reasons.proofs.loops.first_nodes.Goals as goal

pub loop-node-preserved : goal.loop-node-preserved
loop-node-preserved c =
    let g = grown Ways c.loop-node.twice.items c.push.new.list.items c.first_ways.result no_ways c.loop-node.node (first_ways c.args.ways.now c.args.steps.now)
    c.loop-node.invariant.count c.loop-node.invariant.first c.in_ok-push.ensures c.first_ways.ensures in
    record { count = g.count; first = g.exact }
