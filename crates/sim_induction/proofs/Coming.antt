-- Lists of arrivals that may come.
use Rattle.std.proofs.Common.{List}
use Rattle.sloth_base.specs.declared.service.Arrival.{Arrival}
use Rattle.sloth_base.specs.declared.numbers.Owners.{Owners}
use Rattle.sloth_base.specs.Arrivals.{AreArrivals}
use Rattle.sim_induction.specs.Sound.{AreComing}

-- those of a file do
pub arrivals_come : (owners : Owners) (arrivals : List Arrival) → AreArrivals owners arrivals → AreComing owners arrivals
arrivals_come owners arrivals are = record { ordered = are.ordered; lines_owned = are.lines_owned }
