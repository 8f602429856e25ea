use Rattle.std.proofs.Common.{◌≡◌, max, false, length}
use Rattle.run_load.specs.Seen.{longest}
use Rattle.run_load.proofs.lines.longest.Given as goal

abbrev pub invariant-loop-seen : goal.invariant-loop-seen
invariant-loop-seen l = max (longest l.task l.all l.quiet l.rest) l.most ≡ longest l.task l.all false l.watched

abbrev pub decreases-loop-seen : goal.decreases-loop-seen
decreases-loop-seen l = length l.rest
