use Rattle.std.proofs.Common.{◌≡◌, ℕ, ◌&&◌}
use Rattle.call_graph.specs.Bits.{is_member}
use Rattle.call_graph.specs.Reached.{any_below, func_of, reaches_by, is_direct_taking}
use Rattle.call_graph.proofs.rows.reached_resources.Given as goal

abbrev pub invariant-loop-number : goal.invariant-loop-number
invariant-loop-number l = (r : ℕ) → is_member l.resources r ≡ any_below l.number (λ g. reaches_by l.from l.row g && is_direct_taking (func_of l.funcs g) r)
