use Rattle.walk_sums.specs.declared.graph.Ways.{Ways}
use Rattle.walk_sums.specs.Graph.{no_ways}
use Rattle.walk_sums.specs.Links.{item_ways}
use Rattle.call_graph.proofs.Growing.{grown}
use Rattle.walk_sums.proofs.bodies.body_ways.Goals as goal

pub loop-from-preserved : goal.loop-from-preserved
loop-from-preserved c =
    let g = grown Ways c.loop-from.ways.items c.push.new.list.items c.item_ways.result no_ways c.loop-from.from
    (item_ways c.args.func.now c.args.passed.now c.args.going.now c.args.open_items.now)
    c.loop-from.invariant.count c.loop-from.invariant.exact c.in_ok-push.ensures c.item_ways.ensures in
    record { count = g.count; exact = g.exact }
