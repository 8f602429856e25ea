use Rattle.std.proofs.Common.{inl, inr}
use Rattle.walk_sums.proofs.loops.is_weighing_loop.Goals as goal

pub way_reaches-requires-clause-way : goal.way_reaches-requires-clause-way
way_reaches-requires-clause-way c = λ j e. c.requires.inside c.args.node j (inl e)

pub way_reaches-requires-2-clause-way : goal.way_reaches-requires-2-clause-way
way_reaches-requires-2-clause-way c = λ j e. c.requires.inside c.args.node j (inr e)
