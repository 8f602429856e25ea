use Rattle.std.proofs.Common.{ℕ, ◌+◌}
use Rattle.sloth_base.specs.Named.{item_of}
use Rattle.sim_induction.specs.Items.{length_of, going_counts, ending_counts}
use Rattle.call_graph.proofs.Growing.{grown}
use Rattle.run_counts.proofs.weights.body_counts.Goals as goal

pub loop-item-preserved : goal.loop-item-preserved
loop-item-preserved c =
    let f = c.args.func.now in
    let lengths = c.args.lengths.now.bodies in
    let g = grown ℕ c.loop-item.going.items c.push.new.list.items c.going_at.result 0 c.loop-item.item
    (λ i. length_of lengths c.args.number i + going_counts (item_of f i).op)
    c.loop-item.invariant.going_count c.loop-item.invariant.going c.in_ok-push.ensures c.going_at.ensures in
    let e = grown ℕ c.loop-item.ending.items c.push-in-loop-item.new.list.items c.ending_at.result 0 c.loop-item.item
    (λ i. length_of lengths c.args.number i + ending_counts f (item_of f i).op)
    c.loop-item.invariant.ending_count c.loop-item.invariant.ending c.in_ok-push-2.ensures c.ending_at.ensures in
    record { going_count = g.count; ending_count = e.count; going = g.exact; ending = e.exact }
