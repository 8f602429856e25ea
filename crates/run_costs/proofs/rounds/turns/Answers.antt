use Rattle.std.proofs.Common.{inl, inr, refl}
use Rattle.run_costs.proofs.rounds.turns.Goals as goal

pub whole_sums-requires-clause-summed : goal.whole_sums-requires-clause-summed
whole_sums-requires-clause-summed c = inr (inl (refl, inl refl))
