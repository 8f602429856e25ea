use Rattle.std.proofs.Common.{ℕ, ◌+◌, refl}
use Rattle.call_graph.proofs.Growing.{grown}
use Rattle.fault_witnesses.proofs.straight_ways.items_between.Goals as goal

pub loop-number-preserved : goal.loop-number-preserved
loop-number-preserved c =
    let g = grown ℕ c.loop-number.way.items c.push.new.list.items (c.args.first + c.loop-number.number) 0 c.loop-number.number (λ n. c.args.first + n)
    c.loop-number.invariant.count c.loop-number.invariant.each c.in_ok-push.ensures refl in
    record { count = g.count; each = g.exact }
