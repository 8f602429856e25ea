use Rattle.sim_laws.proofs.Housed.{marks_differ}
use Rattle.sim_laws.proofs.zones.marks_differ.Goals as goal

pub returns : goal.returns
returns c = marks_differ
