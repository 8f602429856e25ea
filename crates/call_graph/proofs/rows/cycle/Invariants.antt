use Rattle.std.proofs.Common.{length}
use Rattle.code_rules.proofs.Judged.{Judged}
use Rattle.call_graph.specs.Cycles.{RowCycleAt}
use Rattle.call_graph.proofs.rows.cycle.Given as goal

abbrev pub invariant-loop-number : goal.invariant-loop-number
invariant-loop-number l = Judged (RowCycleAt l.funcs l.rows) (length l.funcs) l.number l.least
