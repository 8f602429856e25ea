use Rattle.std.proofs.Common.{◌≡◌, [], take}
use Rattle.std.specs.Prelude.{fold}
use Rattle.why_text.specs.NamedFaults.{apart_with, AreKeys}
use Rattle.why_text.proofs.naming.first_of_each.Given as goal

abbrev pub invariant-loop-note : goal.invariant-loop-note
invariant-loop-note l = record { list : l.list.items ≡ fold apart_with [] (take l.note-index l.notes); keys : AreKeys l.seen.keys l.list.items }
