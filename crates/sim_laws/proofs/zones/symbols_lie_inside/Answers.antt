use Rattle.sim_laws.proofs.Data.{symbols_are_in}
use Rattle.sim_laws.proofs.zones.symbols_lie_inside.Goals as goal

pub returns : goal.returns
returns c = symbols_are_in
