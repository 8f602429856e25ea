use Rattle.std.proofs.Common.{◌≡◌, ◌&&◌}
use Rattle.call_graph.specs.Reached.{any_below, func_of, reaches_by, is_direct_pause}
use Rattle.call_graph.proofs.rows.reaches_pause.Given as goal

abbrev pub invariant-loop-number : goal.invariant-loop-number
invariant-loop-number l = l.pausing ≡ any_below l.number (λ g. reaches_by l.from l.row g && is_direct_pause (func_of l.funcs g))
