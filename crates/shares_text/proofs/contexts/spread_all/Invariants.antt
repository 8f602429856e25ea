use Rattle.std.proofs.Common.{◌≡◌, drop, length}
use Rattle.shares_text.specs.Contexts.{spread_all}
use Rattle.shares_text.proofs.contexts.spread_all.Given as goal

abbrev pub invariant-loop-call : goal.invariant-loop-call
invariant-loop-call l = record {
  count : length l.table ≡ length l.initial.table;
  rest : spread_all l.table (drop l.call-index l.calls) ≡ spread_all l.initial.table l.calls;
}
