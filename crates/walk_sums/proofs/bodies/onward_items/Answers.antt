use Rattle.std.proofs.Common.{◌∙◌, Bool, not, false, ap}
use Rattle.sloth_base.specs.Named.{item_of}
use Rattle.osek_blocking.specs.Walks.{chains_itself}
use Rattle.call_graph.proofs.Growing.{grown}
use Rattle.walk_sums.proofs.bodies.onward_items.Goals as goal

pub loop-number-preserved : goal.loop-number-preserved
loop-number-preserved c =
    let f = c.args.func.now in
    let g = grown Bool c.loop-number.marks.items c.push.new.list.items _ false c.loop-number.number (λ i. not (chains_itself f (item_of f i).op))
    c.loop-number.invariant.count c.loop-number.invariant.exact c.in_ok-push.ensures (ap not (c.chains_itself.ensures ∙ ap (chains_itself f) c.op.ensures)) in
    record { count = g.count; exact = g.exact }
