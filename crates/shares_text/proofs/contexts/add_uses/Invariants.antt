use Rattle.std.proofs.Common.{◌≡◌, ◌++◌, drop}
use Rattle.shares_text.specs.Computed.{uses_by}
use Rattle.shares_text.proofs.contexts.add_uses.Given as goal

abbrev pub invariant-loop-task : goal.invariant-loop-task
invariant-loop-task l = l.uses.items ++ uses_by l.access l.task (drop l.task l.tasks) ≡ l.initial.uses.items ++ uses_by l.access 0 l.tasks
