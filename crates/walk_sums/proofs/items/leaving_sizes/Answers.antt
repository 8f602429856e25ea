use Rattle.std.proofs.Common.{ℕ, Bool, false, cond, ap, ◌∙◌, get_or}
use Rattle.sloth_base.specs.declared.app.Op.{Op}
use Rattle.sloth_base.specs.Named.{item_of}
use Rattle.walk_sums.specs.Computed.{leaving_size}
use Rattle.call_graph.proofs.Growing.{grown}
use Rattle.walk_sums.proofs.items.leaving_sizes.Goals as goal

pub loop-number-preserved : goal.loop-number-preserved
loop-number-preserved c =
    let n = c.loop-number.number in
    let alive = get_or c.args.alive.now n false in
    let is =
    c.leaving_size-size.ensures ∙ ap (λ (b : Bool). cond b (leaving_size c.number_at-weight.result c.op.result) 0) c.is_marked.ensures
    ∙ ap (λ (w : ℕ). cond alive (leaving_size w c.op.result) 0) c.number_at-weight.ensures
    ∙ ap (λ (o : Op). cond alive (leaving_size (get_or c.args.weights.now n 0) o) 0) c.op.ensures in
    let g = grown ℕ c.loop-number.sizes.items c.push.new.list.items c.leaving_size-size.result 0 n (λ i. cond (get_or c.args.alive.now i false) (leaving_size (get_or c.args.weights.now i 0) (item_of c.args.func.now i).op) 0)
    c.loop-number.invariant.count c.loop-number.invariant.exact c.in_ok-push.ensures is in
    record { count = g.count; exact = g.exact }
