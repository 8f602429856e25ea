use Rattle.std.proofs.Common.{◌+◌}
use Rattle.sloth_base.specs.Owners.{first_counter_line}
use Rattle.osek_machine.specs.Above.{is_line_above}
use Rattle.osek_machine.proofs.Row.{Row}
use Rattle.osek_machine.proofs.priority.lines_above.Given as goal

abbrev pub invariant-loop-counter : goal.invariant-loop-counter
invariant-loop-counter l = Row (is_line_above l.config l.store l.task) (first_counter_line + l.counter) l.row
