use Rattle.std.proofs.Common.{◌≡◌, ◌++◌, map, drop}
use Rattle.trace_check.specs.Counts.{arrival_number}
use Rattle.trace_check.proofs.timing.arrival_numbers.Given as goal

abbrev pub invariant-loop-arrival : goal.invariant-loop-arrival
invariant-loop-arrival l = l.numbers.items ++ map arrival_number (drop l.arrival-index l.arrivals) ≡ map arrival_number l.arrivals
