use Rattle.std.proofs.Common.{◌≡◌}
use Rattle.std.specs.Prelude.{◌==◌}
use Rattle.std.specs.Int.{bit_at}
use Rattle.trace_check.specs.Rows.{least_moment}
use Rattle.trace_check.proofs.rows.least_moment.Given as goal

abbrev pub invariant-loop-line : goal.invariant-loop-line
invariant-loop-line l = l.limit ≡ least_moment l.line (λ u. bit_at l.row u == 1) l.moments
