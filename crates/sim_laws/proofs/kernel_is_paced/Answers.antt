use Rattle.sim_laws.proofs.kernel_is_paced.Goals as goal
use Rattle.sim_laws.proofs.KernelRuns as whole

pub returns : goal.returns
returns c = λ b image kernel. whole.paced_kernel b image kernel
