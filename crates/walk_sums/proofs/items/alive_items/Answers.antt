use Rattle.std.proofs.Common.{◌≡◌, Bool, false, rules}
use Rattle.walk_sums.specs.Computed.{is_alive}
use Rattle.call_graph.proofs.Growing.{grown}
use Rattle.walk_sums.proofs.items.alive_items.Goals as goal

pub loop-number-preserved : goal.loop-number-preserved
loop-number-preserved c =
    let g = grown Bool c.loop-number.alive.items c.push.new.list.items _ false c.loop-number.number (is_alive c.args.body.now c.args.level)
    c.loop-number.invariant.count c.loop-number.invariant.exact c.in_ok-push.ensures (search rules) in
    record { count = g.count; exact = g.exact }
