use Rattle.std.proofs.Common.{Bool, false}
use Rattle.walk_sums.specs.Kinds.{is_going}
use Rattle.call_graph.proofs.Growing.{grown}
use Rattle.walk_sums.proofs.items.going_items.Goals as goal

pub loop-number-preserved : goal.loop-number-preserved
loop-number-preserved c =
    let g = grown Bool c.loop-number.going.items c.push.new.list.items c.is_going.result false c.loop-number.number (is_going c.args.func.now c.args.kind c.args.alive.now)
    c.loop-number.invariant.count c.loop-number.invariant.exact c.in_ok-push.ensures c.is_going.ensures in
    record { count = g.count; exact = g.exact }
