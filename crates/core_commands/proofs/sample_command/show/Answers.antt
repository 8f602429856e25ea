use Rattle.core_commands.specs.Samples.{sample_text}
use Rattle.core_commands.proofs.sample_command.show.Goals as goal

pub returns-clause-ok : goal.returns-clause-ok
unfolding sample_text
returns-clause-ok g c = rw c.tally-tally.ensures.counts at c.put_summary.ensures.ok

pub returns-clause-err : goal.returns-clause-err
unfolding sample_text
returns-clause-err g c = rw c.tally-tally.ensures.counts at c.put_summary.ensures.err
