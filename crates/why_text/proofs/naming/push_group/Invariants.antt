use Rattle.why_text.specs.NamedFaults.{AddsSome}
use Rattle.why_text.proofs.naming.push_group.Given as goal

abbrev pub invariant-loop-note : goal.invariant-loop-note
invariant-loop-note l = AddsSome l.fault l.found l.initial.list.items l.list.items
