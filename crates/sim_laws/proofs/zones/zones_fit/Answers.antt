use Rattle.sim_laws.proofs.Fitting.{zones_fit}
use Rattle.sim_laws.proofs.zones.zones_fit.Goals as goal

pub returns : goal.returns
returns c = zones_fit
