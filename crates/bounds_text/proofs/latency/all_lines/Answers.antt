use Rattle.bounds_text.proofs.Keeping.{highest-task}
use Rattle.bounds_text.specs.Latency.{IsHighestTask}
use Rattle.bounds_text.proofs.latency.all_lines.Goals as goal

pub last_line-requires-clause-highest : goal.last_line-requires-clause-highest
last_line-requires-clause-highest c =
    highest-task c.args.config.now c.highest_among-highest.result c.requires.in_range
    (rw c.items.ensures at c.highest_among-highest.ensures.some) (rw c.items.ensures at c.highest_among-highest.ensures.none)

pub last_line-requires-clause-bodies : goal.last_line-requires-clause-bodies
last_line-requires-clause-bodies c = λ t there. let body = c.requires.well_formed.in_range.tasks.body t there in (body.0, body.1.0, body.1.1)

pub last_line-requires-clause-frames : goal.last_line-requires-clause-frames
last_line-requires-clause-frames c = λ i d inside. (c.requires.well_formed.in_range.bodies i d inside).frame
