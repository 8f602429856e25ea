use Rattle.std.proofs.Common.{◌≡◌, ℕ, ◌<◌, length, get_or}
use Rattle.shares_text.specs.Contexts.{AreContexts}
use Rattle.shares_text.specs.Tables.{no_contexts}
use Rattle.shares_text.proofs.symbol_verdicts.all_ways.Given as goal

abbrev pub invariant-loop-task : goal.invariant-loop-task
invariant-loop-task l = record {
  count : length l.tasks.items ≡ l.task;
  each : (t : ℕ) → t < l.task → AreContexts l.config l.app t (get_or l.tasks.items t no_contexts).table;
}
