use Rattle.std.proofs.Common.{subst, sym}
use Rattle.walk_sums.specs.Graph.{HasMark}
use Rattle.walk_sums.proofs.Diving.{known, pushed_as, pushed_known, finished_as, looped, known_done, keeps_more, fewer_as}
use Rattle.walk_sums.proofs.graph.dive.Goals as goal

pub unseen_next-requires-clause-known : goal.unseen_next-requires-clause-known
unseen_next-requires-clause-known c =
    known c.args.ways.now c.loop-from.seen c.loop-from.done c.loop-from.stack.items c.pop.new.self.items c.loop-from.order.items c.in-Some.from
    c.in-Some.ensures.items c.loop-from.invariant.searching

pub keep-requires : goal.keep-requires
keep-requires c =
    (pushed_known c.args.ways.now c.loop-from.seen c.loop-from.done c.loop-from.stack.items c.pop.new.self.items c.loop-from.order.items c.in-Some.from
    c.in-Some.ensures.items c.loop-from.invariant.searching c.requires.inside c.in-Some-unseen_next.node (sym c.in-Some-unseen_next.ensures)).0

pub loop-from-smaller-in-Continue-branch-2 : goal.loop-from-smaller-in-Continue-branch-2
loop-from-smaller-in-Continue-branch-2 c =
    fewer_as c.args.ways.now c.loop-from.seen c.loop-from.done c.loop-from.stack.items c.pop.new.self.items c.loop-from.order.items c.in-Some.from
    c.in-Some.ensures.items c.loop-from.invariant.searching c.requires.inside c.in-Some-unseen_next.node (sym c.in-Some-unseen_next.ensures)
    c.keep.new.marks c.push.new.list.items c.keep.new.list.items
    c.in_ok-keep-in-Some-unseen_next.ensures.marks c.in_ok-push-in-Some-unseen_next.ensures c.in_ok-keep-in-Some-unseen_next.ensures.list

pub loop-from-preserved-in-Continue-branch-2 : goal.loop-from-preserved-in-Continue-branch-2
loop-from-preserved-in-Continue-branch-2 c = record {
  searching =
      pushed_as c.args.ways.now c.loop-from.seen c.loop-from.done c.loop-from.stack.items c.pop.new.self.items c.loop-from.order.items c.in-Some.from
      c.in-Some.ensures.items c.loop-from.invariant.searching c.requires.inside c.in-Some-unseen_next.node (sym c.in-Some-unseen_next.ensures)
      c.keep.new.marks c.push.new.list.items c.keep.new.list.items
      c.in_ok-keep-in-Some-unseen_next.ensures.marks c.in_ok-push-in-Some-unseen_next.ensures c.in_ok-keep-in-Some-unseen_next.ensures.list;
  keeps = λ i m.
      subst (λ b. HasMark b i) (sym c.in_ok-keep-in-Some-unseen_next.ensures.marks)
      (keeps_more c.loop-from.seen c.in-Some-unseen_next.node i (c.loop-from.invariant.keeps i m));
}

pub leads_to_open-requires-clause-known : goal.leads_to_open-requires-clause-known
leads_to_open-requires-clause-known c =
    known c.args.ways.now c.loop-from.seen c.loop-from.done c.loop-from.stack.items c.pop.new.self.items c.loop-from.order.items c.in-Some.from
    c.in-Some.ensures.items c.loop-from.invariant.searching

pub returns-then-leads_to_open : goal.returns-then-leads_to_open
returns-then-leads_to_open c = (
  _,
  looped c.args.ways.now c.loop-from.seen c.loop-from.done c.loop-from.stack.items c.pop.new.self.items c.loop-from.order.items c.in-Some.from
      c.in-Some.ensures.items c.loop-from.invariant.searching (sym c.in-None-unseen_next.ensures) (sym c.if-leads_to_open.ensures),
)

pub keep-requires-in-None-unseen_next : goal.keep-requires-in-None-unseen_next
keep-requires-in-None-unseen_next c =
    known_done c.args.ways.now c.loop-from.seen c.loop-from.done c.loop-from.stack.items c.pop.new.self.items c.loop-from.order.items c.in-Some.from
    c.in-Some.ensures.items c.loop-from.invariant.searching

pub loop-from-preserved : goal.loop-from-preserved
loop-from-preserved c = record {
  searching =
      finished_as c.args.ways.now c.loop-from.seen c.loop-from.done c.loop-from.stack.items c.pop.new.self.items c.loop-from.order.items c.in-Some.from
      c.in-Some.ensures.items c.loop-from.invariant.searching (sym c.if-leads_to_open.ensures)
      c.keep-in-None-unseen_next.new.marks c.keep-in-None-unseen_next.new.list.items
      c.in_ok-keep-in-None-unseen_next.ensures.marks c.in_ok-keep-in-None-unseen_next.ensures.list;
  keeps = c.loop-from.invariant.keeps;
}
