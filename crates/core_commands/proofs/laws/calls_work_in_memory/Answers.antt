use Rattle.core_commands.proofs.InMemoryCalls.{calls-work}
use Rattle.core_commands.proofs.laws.calls_work_in_memory.Goals as goal

pub returns : goal.returns
returns c = calls-work
