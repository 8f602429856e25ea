use Rattle.std.proofs.Common.{◌≡◌, ℕ, ◌<◌, length}
use Rattle.call_graph.specs.Rows.{row_has}
use Rattle.call_graph.specs.Reached.{func_of, is_direct_call}
use Rattle.call_graph.proofs.lists.direct_calls.Given as goal

abbrev pub invariant-loop-func : goal.invariant-loop-func
invariant-loop-func l = record { count : length l.rows.items ≡ l.func-index; calls : (f g : ℕ) → f < l.func-index → row_has l.rows.items f g ≡ is_direct_call (func_of l.funcs f) g }
