use Rattle.std.proofs.Common.{[], sym, subst}
use Rattle.holds_infer.specs.WayLists.{AreWayLists}
use Rattle.holds_infer.proofs.LongerWays.{way_of_none, one_list, no_way_lists}
use Rattle.holds_infer.proofs.body_ways.walk.Goals as goal

pub returns-then-is_empty : goal.returns-then-is_empty
returns-then-is_empty c = no_way_lists c.args.func.now c.args.lists.now c.requires.clear

pub reach_all-requires-clause-lists : goal.reach_all-requires-clause-lists
reach_all-requires-clause-lists c =
    let f = c.args.func.now in
    subst (AreWayLists f) (sym c.in_ok-keep.ensures)
    (one_list f c.args.lists.now 0 [] (way_of_none f) (no_way_lists f c.args.lists.now c.requires.clear))
