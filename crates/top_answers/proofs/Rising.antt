-- Moments that rise from later on rise from earlier on.
use Rattle.std.proofs.Common.{ℕ, List, [], ◌∷◌, ◌≤◌, arith}
use Rattle.sloth_base.specs.declared.service.Arrival.{Arrival}
use Rattle.sloth_base.specs.Arrivals.{AreRisingMoments}

pub weaker : (m n : ℕ) (A : List Arrival) → n ≤ m → AreRisingMoments m A → AreRisingMoments n A
weaker m n [] le h = tt
weaker m n (a ∷ A) le h = (omega arith, h.1)
