use Rattle.core_commands.proofs.InMemoryCalls.{lines-work}
use Rattle.core_commands.proofs.laws.lines_work_in_memory.Goals as goal

pub returns : goal.returns
returns c = lines-work
