use Rattle.fault_witnesses.proofs.Holding.{way_holds}
use Rattle.fault_witnesses.proofs.laws.way_holds.Goals as goal

pub returns : goal.returns
returns c = way_holds
