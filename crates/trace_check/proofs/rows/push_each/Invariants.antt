use Rattle.std.proofs.Common.{◌≡◌, ◌++◌, Some}
use Rattle.trace_check.specs.Rows.{event_of, rows_below, rows_of}
use Rattle.trace_check.proofs.rows.push_each.Given as goal

abbrev pub invariant-loop-number : goal.invariant-loop-number
invariant-loop-number l = l.rows.items ≡ l.fn.rows.items ++ rows_below l.number (λ k. rows_of l.walk (Some (event_of l.kind k)))
