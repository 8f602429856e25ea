use Rattle.osek_machine.specs.Above.{is_above}
use Rattle.osek_machine.proofs.Row.{Row}
use Rattle.osek_machine.proofs.priority.tasks_above.Given as goal

abbrev pub invariant-loop-other : goal.invariant-loop-other
invariant-loop-other l = Row (is_above l.config l.store l.task) l.other l.row
