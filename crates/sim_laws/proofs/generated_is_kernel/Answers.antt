use Rattle.sim_laws.proofs.generated_is_kernel.Goals as goal
use Rattle.sim_laws.proofs.Generated as generated

pub returns : goal.returns
returns c = λ b image levels map g. generated.generated_kernel b image levels map g
