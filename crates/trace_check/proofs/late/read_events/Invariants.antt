use Rattle.std.proofs.Common.{length}
use Rattle.trace_check.proofs.ReadEvents.{HasRead}
use Rattle.trace_check.proofs.late.read_events.Given as goal

abbrev pub invariant-loop-rest : goal.invariant-loop-rest
invariant-loop-rest l = HasRead l.names.tasks l.names.funcs l.names.counters l.text l.events.items l.rest

abbrev pub decreases-loop-rest : goal.decreases-loop-rest
decreases-loop-rest l = length l.rest
