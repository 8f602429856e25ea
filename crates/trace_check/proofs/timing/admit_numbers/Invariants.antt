use Rattle.std.proofs.Common.{◌≡◌, take}
use Rattle.trace_check.specs.Counts.{admit_numbers}
use Rattle.trace_check.proofs.timing.admit_numbers.Given as goal

abbrev pub invariant-loop-event : goal.invariant-loop-event
invariant-loop-event l = l.numbers.items ≡ admit_numbers (take l.event-index l.events)
