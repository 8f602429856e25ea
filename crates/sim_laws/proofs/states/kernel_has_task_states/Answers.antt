use Rattle.sim_laws.proofs.states.kernel_has_task_states.Goals as goal
use Rattle.sim_laws.proofs.Shown.{kernel_shows}

pub returns : goal.returns
returns c = kernel_shows
