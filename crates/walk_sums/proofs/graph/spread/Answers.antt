use Rattle.std.proofs.Common.{◌∙◌, sym}
use Rattle.walk_sums.proofs.Spreading.{known, pushed_known, pushed_as, fewer_as, dropped, spread_out}
use Rattle.walk_sums.proofs.graph.spread.Goals as goal

pub returns-in-None : goal.returns-in-None
returns-in-None c = spread_out c.args.ways.now c.args.first c.loop-from.marks c.loop-from.stack.items (sym c.loop-from.stack.ok.0 ∙ c.in-None.ensures.cases.0) c.loop-from.invariant

pub unseen_next-requires-clause-known : goal.unseen_next-requires-clause-known
unseen_next-requires-clause-known c =
    known c.args.ways.now c.args.first c.loop-from.marks c.loop-from.stack.items c.pop.new.self.items c.in-Some.from c.in-Some.ensures.items c.loop-from.invariant

pub keep-requires : goal.keep-requires
keep-requires c =
    (pushed_known c.args.ways.now c.args.first c.loop-from.marks c.loop-from.stack.items c.pop.new.self.items c.in-Some.from c.in-Some.ensures.items c.loop-from.invariant
    c.requires.inside c.in-Some-unseen_next.node (sym c.in-Some-unseen_next.ensures)).0

pub loop-from-smaller-in-Continue-branch-2 : goal.loop-from-smaller-in-Continue-branch-2
loop-from-smaller-in-Continue-branch-2 c =
    fewer_as c.args.ways.now c.args.first c.loop-from.marks c.loop-from.stack.items c.pop.new.self.items c.in-Some.from c.in-Some.ensures.items c.loop-from.invariant
    c.requires.inside c.in-Some-unseen_next.node (sym c.in-Some-unseen_next.ensures)
    c.keep.new.marks c.push.new.list.items c.keep.new.list.items
    c.in_ok-keep-in-Some-unseen_next.ensures.marks c.in_ok-push-in-Some-unseen_next.ensures c.in_ok-keep-in-Some-unseen_next.ensures.list

pub loop-from-preserved-in-Continue-branch-2 : goal.loop-from-preserved-in-Continue-branch-2
loop-from-preserved-in-Continue-branch-2 c =
    pushed_as c.args.ways.now c.args.first c.loop-from.marks c.loop-from.stack.items c.pop.new.self.items c.in-Some.from c.in-Some.ensures.items c.loop-from.invariant
    c.requires.inside c.in-Some-unseen_next.node (sym c.in-Some-unseen_next.ensures)
    c.keep.new.marks c.push.new.list.items c.keep.new.list.items
    c.in_ok-keep-in-Some-unseen_next.ensures.marks c.in_ok-push-in-Some-unseen_next.ensures c.in_ok-keep-in-Some-unseen_next.ensures.list

pub loop-from-preserved : goal.loop-from-preserved
loop-from-preserved c =
    dropped c.args.ways.now c.args.first c.loop-from.marks c.loop-from.stack.items c.pop.new.self.items c.in-Some.from c.in-Some.ensures.items c.loop-from.invariant
    (sym c.in-None-unseen_next.ensures)
