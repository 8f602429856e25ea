use Rattle.std.proofs.Common.{◌≡◌, ℕ, ◌+◌, ◌<◌, drop, Some}
use Rattle.sloth_base.specs.Named.{body_of}
use Rattle.call_graph.specs.Tables.{func_of}
use Rattle.stack_bounds.proofs.stacking.body_of.Given as goal

abbrev pub invariant-loop-number : goal.invariant-loop-number
invariant-loop-number l = record {
  rest : body_of l.funcs l.task ≡ l.number + body_of (drop l.number l.funcs) l.task;
  none : (k : ℕ) → k < l.number → (func_of l.funcs k).task ≡ Some l.task → ⊥;
}
