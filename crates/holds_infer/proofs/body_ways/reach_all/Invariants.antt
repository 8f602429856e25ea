use Rattle.holds_infer.specs.WayLists.{AreWayLists}
use Rattle.holds_infer.proofs.body_ways.reach_all.Given as goal

abbrev pub invariant-loop-turn : goal.invariant-loop-turn
invariant-loop-turn l = AreWayLists l.func l.lists
