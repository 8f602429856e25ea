use Rattle.std.proofs.Common.{sym, subst}
use Rattle.holds_infer.specs.WayLists.{AreWayLists}
use Rattle.holds_infer.proofs.LongerWays.{one_list}
use Rattle.holds_infer.proofs.body_ways.arrive.Goals as goal

pub returns : goal.returns
returns c =
    let f = c.args.func.now in
    subst (AreWayLists f) (sym c.in_ok-keep.ensures)
    (one_list f c.args.lists.now c.args.step.place c.args.held.now (c.requires.held c.args.step.place (c.goes.ensures c.if-not-goes.false)) c.requires.lists)
