use Rattle.std.proofs.Common.{◌≡◌, drop, max}
use Rattle.osek_scheduler.specs.Priority.{greatest}
use Rattle.shares_text.proofs.sites.greatest_rank.Given as goal

abbrev pub invariant-loop-rank : goal.invariant-loop-rank
invariant-loop-rank l = max l.top (greatest (drop l.rank-index l.ranks)) ≡ greatest l.ranks
