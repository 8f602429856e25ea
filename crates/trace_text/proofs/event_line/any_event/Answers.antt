use Rattle.std.proofs.Common.{length}
use Rattle.trace_text.proofs.event_line.any_event.Goals as goal

pub returns-clause-numbers : goal.returns-clause-numbers
returns-clause-numbers c = c.task_event.ensures.numbers (length c.args.counters.now)
