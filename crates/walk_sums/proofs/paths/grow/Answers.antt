use Rattle.std.proofs.Common.{arith}
use Rattle.walk_sums.proofs.Settling.{one_grown}
use Rattle.walk_sums.proofs.paths.grow.Goals as goal

pub longest_size-size-requires-clause-inside : goal.longest_size-size-requires-clause-inside
longest_size-size-requires-clause-inside c = λ j g. let lt = c.requires.inside c.args.node j g in let count = c.requires.attained.count in omega (arith, lt, count)

pub returns-then-table-node-clause-attained : goal.returns-then-table-node-clause-attained
returns-then-table-node-clause-attained c =
    one_grown c.args.ways.now c.args.steps.now c.args.ends.now c.requires.sizes c.args.table.now c.args.node c.longest_size-size.result c.requires.attained
    c.requires.known c.longest_size-size.ensures c.if-table-node.true
