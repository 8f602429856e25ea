use Rattle.std.proofs.Common.{inl, inr, arith}
use Rattle.response_reasons.proofs.loops.second_ways.Goals as goal

pub second_way-requires : goal.second_way-requires
second_way-requires c j e = let lt = c.requires.inside c.args.node j (inl e) in let few = c.requires.few in omega (arith, lt, few)

pub second_way-requires-2 : goal.second_way-requires-2
second_way-requires-2 c j e = let lt = c.requires.inside c.args.node j (inr e) in let few = c.requires.few in omega (arith, lt, few)
