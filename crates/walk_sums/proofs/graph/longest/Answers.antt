use Rattle.std.proofs.Common.{ℕ, List, ◌≡◌, ◌<◌, length, get_or, subst, sym, arith}
use Rattle.walk_sums.specs.Trails.{longest_from}
use Rattle.walk_sums.proofs.Ordering.{node_known, way_known, turned}
use Rattle.walk_sums.proofs.graph.longest.Goals as goal

pub longest_size-requires-clause-inside : goal.longest_size-requires-clause-inside
longest_size-requires-clause-inside c = λ j g.
    subst (λ (t : List ℕ). j < length t) (sym c.deref.ensures.value)
    (way_known c.args.ways.now c.args.steps.now c.args.ends.now c.args.order.now c.requires.order c.requires.sizes c.loop-node.table.items
    c.loop-node.node-index j c.loop-node.invariant.count c.loop-node-test.true g)

pub longest_size-requires-clause-known : goal.longest_size-requires-clause-known
longest_size-requires-clause-known c =
    node_known c.args.ways.now c.args.steps.now c.args.ends.now c.args.order.now c.requires.order c.requires.sizes c.loop-node.node-index c.loop-node-test.true

pub index_mut-requires : goal.index_mut-requires
index_mut-requires c =
    let n = node_known c.args.ways.now c.args.steps.now c.args.ends.now c.args.order.now c.requires.order c.requires.sizes c.loop-node.node-index c.loop-node-test.true in
    let count = c.loop-node.invariant.count in
    let len = c.loop-node.table.ok.0 in
    omega (arith, n, count, len)

pub loop-node-preserved : goal.loop-node-preserved
loop-node-preserved c =
    let is = subst (λ (t : List ℕ). c.longest_size.result ≡ longest_from c.args.ways.now t c.args.steps.now c.args.ends.now (get_or c.args.order.now c.loop-node.node-index 0))
    c.deref.ensures.value c.longest_size.ensures in
    let t = turned c.args.ways.now c.args.steps.now c.args.ends.now c.args.order.now c.requires.order c.requires.sizes c.loop-node.table.items
    c.loop-node.node-index c.longest_size.result c.loop-node.invariant.count c.loop-node.invariant.small c.loop-node.invariant.known
    c.loop-node-test.true is in
    record { count = t.count; small = t.small; known = t.known }
