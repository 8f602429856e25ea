use Rattle.std.proofs.Common.{◌≡◌, true, get_or}
use Rattle.std.specs.Prelude.{◌==◌, ◌||◌, not, ltb}
use Rattle.std.specs.Int.{bit_at}
use Rattle.osek_scheduler.specs.Next.{all_below}
use Rattle.trace_check.proofs.walk.all_later.Given as goal

abbrev pub invariant-loop-line : goal.invariant-loop-line
invariant-loop-line l = all_below l.line (λ u. not (bit_at l.row u == 1) || ltb l.count (get_or l.moments u 0)) ≡ true
