use Rattle.std.proofs.Common.{inl, inr}
use Rattle.walk_sums.proofs.graph.longest_size.Goals as goal

pub along-next-requires-clause-inside : goal.along-next-requires-clause-inside
along-next-requires-clause-inside c = λ j e. c.requires.inside j (inl e)

pub along-jump-requires-clause-inside : goal.along-jump-requires-clause-inside
along-jump-requires-clause-inside c = λ j e. c.requires.inside j (inr e)
