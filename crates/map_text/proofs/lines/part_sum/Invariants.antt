use Rattle.std.proofs.Common.{◌≡◌, ◌≤◌, ◌+◌, ◌*◌, drop}
use Rattle.map_text.specs.Totals.{part_sum}
use Rattle.map_text.proofs.lines.part_sum.Given as goal

abbrev pub invariant-loop-i : goal.invariant-loop-i
invariant-loop-i l = (l.sum + part_sum l.part (drop l.i l.rows) ≡ part_sum l.part l.rows) × (l.sum ≤ l.i * 4294967296)
