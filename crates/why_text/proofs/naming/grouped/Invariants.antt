use Rattle.std.proofs.Common.{take}
use Rattle.why_text.specs.NamedFaults.{NamesAll}
use Rattle.why_text.proofs.naming.grouped.Given as goal

abbrev pub invariant-loop-fault : goal.invariant-loop-fault
invariant-loop-fault l = NamesAll (take l.fault-index l.faults) l.list.items
