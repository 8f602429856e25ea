use Rattle.sim_laws.proofs.kernel_stands.Goals as goal
use Rattle.sim_laws.proofs.KernelRuns as whole

pub returns : goal.returns
returns c = λ b image kernel. whole.stands_kernel b image kernel
