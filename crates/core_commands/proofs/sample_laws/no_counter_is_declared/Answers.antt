use Rattle.core_commands.proofs.Declared.{no-counters}
use Rattle.core_commands.proofs.sample_laws.no_counter_is_declared.Goals as goal

pub returns : goal.returns
returns c = no-counters
