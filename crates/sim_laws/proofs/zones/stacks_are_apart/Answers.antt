use Rattle.sim_laws.proofs.Fitting.{stacks_are_apart}
use Rattle.sim_laws.proofs.zones.stacks_are_apart.Goals as goal

pub returns : goal.returns
returns c = stacks_are_apart
