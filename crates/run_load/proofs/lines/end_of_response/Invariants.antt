use Rattle.std.proofs.Common.{◌≡◌, drop}
use Rattle.run_load.specs.Seen.{end_of_response}
use Rattle.run_load.proofs.lines.end_of_response.Given as goal

abbrev pub invariant-loop-seen : goal.invariant-loop-seen
invariant-loop-seen l = end_of_response l.task l.last (drop l.seen-index l.behind) ≡ end_of_response l.task 0 l.behind
