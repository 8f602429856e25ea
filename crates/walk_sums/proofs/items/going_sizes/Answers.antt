use Rattle.std.proofs.Common.{ℕ, ap, ◌∙◌, get_or}
use Rattle.sloth_base.specs.Named.{item_of}
use Rattle.walk_sums.specs.Computed.{going_size}
use Rattle.call_graph.proofs.Growing.{grown}
use Rattle.walk_sums.proofs.items.going_sizes.Goals as goal

pub loop-number-preserved : goal.loop-number-preserved
loop-number-preserved c =
    let is =
    c.going_size.ensures ∙ ap (λ (w : ℕ). going_size c.args.whole.now w c.op.result) c.number_at-weight.ensures
    ∙ ap (going_size c.args.whole.now (get_or c.args.weights.now c.loop-number.number 0)) c.op.ensures in
    let g = grown ℕ c.loop-number.sizes.items c.push.new.list.items c.going_size.result 0 c.loop-number.number (λ i. going_size c.args.whole.now (get_or c.args.weights.now i 0) (item_of c.args.func.now i).op)
    c.loop-number.invariant.count c.loop-number.invariant.exact c.in_ok-push.ensures is in
    record { count = g.count; exact = g.exact }
