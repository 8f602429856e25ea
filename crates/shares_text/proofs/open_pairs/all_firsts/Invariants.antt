use Rattle.shares_text.specs.Computed.{AreFirsts}
use Rattle.shares_text.proofs.open_pairs.all_firsts.Given as goal

abbrev pub invariant-loop-task : goal.invariant-loop-task
invariant-loop-task l = AreFirsts l.uses l.task l.table.items
