use Rattle.std.proofs.Common.{◌≡◌, ◌≤◌, ◌+◌, ◌*◌, length}
use Rattle.call_graph.specs.Tables.{max_below}
use Rattle.code_lengths.specs.LongestPaths.{tick_path}
use Rattle.bounds_text.proofs.latency.heaviest_tick.Given as goal

abbrev pub invariant-loop-counter : goal.invariant-loop-counter
invariant-loop-counter l = record {
  is : l.most ≡ max_below l.counter (λ c. tick_path l.config c);
  short : l.most ≤ 12 + 34 * length l.config.alarms;
}
