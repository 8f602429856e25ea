use Rattle.sim_laws.proofs.Data.{symbols_are_apart}
use Rattle.sim_laws.proofs.zones.symbols_are_apart.Goals as goal

pub returns : goal.returns
returns c = symbols_are_apart
