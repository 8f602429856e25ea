use Rattle.sim_routines.proofs.entries.generated_enters.Goals as goal
use Rattle.sim_routines.proofs.Generated as generated

pub returns : goal.returns
returns c = λ b levels map t code fits built declared one enters. generated.enters_built b levels map t code fits built declared one enters
