use Rattle.sim_laws.proofs.Data.{symbols_are_in_data}
use Rattle.sim_laws.proofs.zones.symbols_are_in_data.Goals as goal

pub returns : goal.returns
returns c = symbols_are_in_data
