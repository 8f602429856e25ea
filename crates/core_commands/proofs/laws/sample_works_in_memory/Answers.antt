use Rattle.core_commands.proofs.InMemoryCalls.{sample-works}
use Rattle.core_commands.proofs.laws.sample_works_in_memory.Goals as goal

pub returns : goal.returns
returns c = sample-works
