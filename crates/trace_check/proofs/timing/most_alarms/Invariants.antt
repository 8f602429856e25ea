use Rattle.std.proofs.Common.{◌≡◌, ◌≤◌, length}
use Rattle.sloth_base.specs.Named.{alarms_of, greatest_value_below}
use Rattle.trace_check.proofs.timing.most_alarms.Given as goal

abbrev pub invariant-loop-counter : goal.invariant-loop-counter
invariant-loop-counter l = record {
  greatest : l.most ≡ greatest_value_below l.counter (alarms_of l.config);
  few : l.most ≤ length l.config.alarms;
}
