use Rattle.sim_laws.proofs.kernel_is_weighed.Goals as goal
use Rattle.sim_laws.proofs.KernelRuns as whole

pub returns : goal.returns
returns c = λ b image kernel. whole.weighed_kernel b image kernel
