use Rattle.std.proofs.Common.{◌<◌, length}
use Rattle.bounds_text.specs.Highest.{AreAtMost}
use Rattle.bounds_text.proofs.latency.highest_among.Given as goal

abbrev pub invariant-loop-task : goal.invariant-loop-task
invariant-loop-task l = (l.highest < length l.tasks) × AreAtMost l.tasks l.highest l.task
