use Rattle.core_commands.proofs.Declared.{thirty-tasks}
use Rattle.core_commands.proofs.sample_laws.all_tasks_are_declared.Goals as goal

pub returns : goal.returns
returns c = thirty-tasks
