use Rattle.std.proofs.Common.{length}
use Rattle.trace_text.proofs.event_line.task_event.Goals as goal

pub returns-clause-numbers : goal.returns-clause-numbers
returns-clause-numbers c = λ counters. c.further_event.ensures.numbers (length c.args.tasks.now) counters c.in_ok-task-3.ensures.names
