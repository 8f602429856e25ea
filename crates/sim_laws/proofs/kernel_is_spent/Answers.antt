use Rattle.sim_laws.proofs.kernel_is_spent.Goals as goal
use Rattle.sim_laws.proofs.KernelRuns as whole

pub returns : goal.returns
returns c = λ b image kernel. whole.spent_kernel b image kernel
